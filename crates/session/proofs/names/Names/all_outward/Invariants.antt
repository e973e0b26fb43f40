use Rattle.std.proofs.Common.{◌≡◌, take}
use Rattle.session.specs.Naming.{all_outward}
use Rattle.session.proofs.names.Names.all_outward.Given as goal

abbrev pub invariant-loop-lit : goal.invariant-loop-lit
invariant-loop-lit l = l.named.items ≡ all_outward l.self (take l.lit-index l.lits)
