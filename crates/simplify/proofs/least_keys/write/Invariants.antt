use Rattle.std.proofs.Common.{◌/◌, ◌<◌, length, slice_set}
use Rattle.simplify.specs.LeastKeys.{AreLesserBut, AreSameLeaves}
use Rattle.simplify.proofs.least_keys.write.Given as goal

-- only the node above this one may have another key
abbrev pub invariant-loop-node : goal.invariant-loop-node
invariant-loop-node l = record {
  lesser : AreLesserBut l.keys (l.node / 2);
  inside : l.node < length l.keys;
  leaves : AreSameLeaves (slice_set l.fn.keys l.leaf l.key) l.keys;
}

abbrev pub decreases-loop-node : goal.decreases-loop-node
decreases-loop-node l = l.node
