use Rattle.std.proofs.Common.{◌≡◌, drop}
use Rattle.theory.specs.Literals.{has_var}
use Rattle.packs.proofs.replay.splits.has_var.Given as goal

-- the literals that are left give the answer
abbrev pub invariant-loop-lit : goal.invariant-loop-lit
invariant-loop-lit l = has_var (drop l.lit-index l.literals) l.var ≡ has_var l.literals l.var
