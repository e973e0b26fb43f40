use Rattle.std.proofs.Common.{◌+◌, ◌-◌, ◌≤◌, length}
use Rattle.std.specs.Vec.{vec_len, vec_capacity}
use Rattle.simplify.proofs.Merging.{IsMerging}
use Rattle.simplify.proofs.resolvent.resolve.Given as goal

abbrev pub invariant-loop-i : goal.invariant-loop-i
invariant-loop-i l = record {
  merging : IsMerging l.variable l.left l.right l.fn.out.items l.out.items l.i l.j;
  within_left : l.i ≤ length l.left;
  within_right : l.j ≤ length l.right;
  room : (vec_len l.out + (length l.left - l.i)) + (length l.right - l.j) ≤ vec_capacity l.out;
}

-- what is left of both clauses
abbrev pub decreases-loop-i : goal.decreases-loop-i
decreases-loop-i l = (length l.left - l.i) + (length l.right - l.j)
