use Rattle.std.proofs.Common.{◌≡◌, ◌≤◌, length, take}
use Rattle.theory.specs.Trails.{up_to}
use Rattle.cdcl.proofs.search.decisions.count_up_to.Given as goal

-- no entry behind those that are left is of the levels up to the given one
abbrev pub invariant-loop-count : goal.invariant-loop-count
invariant-loop-count l = record {
  within : l.count ≤ length l.kernel.trail;
  same : up_to (take l.count l.kernel.trail) l.level ≡ up_to l.kernel.trail l.level;
}

abbrev pub decreases-loop-count : goal.decreases-loop-count
decreases-loop-count l = l.count
