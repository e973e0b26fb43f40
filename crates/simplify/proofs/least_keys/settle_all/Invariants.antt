use Rattle.std.proofs.Common.{ℕ, ◌+◌, ◌*◌, ◌<◌, ◌≤◌, length}
use Rattle.simplify.specs.LeastKeys.{IsLesser, AreSameLeaves}
use Rattle.simplify.proofs.least_keys.settle_all.Given as goal

-- the nodes from this one on have the lesser keys
abbrev pub invariant-loop-node : goal.invariant-loop-node
invariant-loop-node l = record {
  most : 2 * l.node ≤ length l.keys;
  lesser : (i : ℕ) → 1 ≤ i → l.node ≤ i → 2 * i + 1 < length l.keys → IsLesser l.keys i;
  leaves : AreSameLeaves l.fn.keys l.keys;
}

abbrev pub decreases-loop-node : goal.decreases-loop-node
decreases-loop-node l = l.node
