use Rattle.std.proofs.Common.{◌≡◌, take}
use Rattle.cubes.proofs.traversal.Walk.stand_at.Given as goal

-- so many splits of the other place, from the root on
abbrev pub invariant-loop-split : goal.invariant-loop-split
invariant-loop-split g l = l.self-inside.splits.items ≡ take l.split-index l.split-items
