use Rattle.std.proofs.Common.{◌≡◌, map, take}
use Rattle.session.specs.Naming.{value_outward}
use Rattle.session.proofs.names.Names.values_outward.Given as goal

abbrev pub invariant-loop-number : goal.invariant-loop-number
invariant-loop-number l = l.named.items ≡ map (value_outward l.values) (take l.number-index l.self.numbers)
