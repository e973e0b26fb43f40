use Rattle.std.proofs.Common.{◌≤◌, length}
use Rattle.session.specs.Needing.{IsWalked}
use Rattle.session.proofs.core_walk.needed.Given as goal

-- the entries behind the place were looked at
abbrev pub invariant-loop-place : goal.invariant-loop-place
invariant-loop-place l = record {
  within : l.place ≤ length l.kernel.trail;
  walked : IsWalked l.kernel.clauses l.kernel.trail l.fn.failed l.place l.marked l.core.items;
}

abbrev pub decreases-loop-place : goal.decreases-loop-place
decreases-loop-place l = l.place
