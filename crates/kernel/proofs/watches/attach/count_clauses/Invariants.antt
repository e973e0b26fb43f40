use Rattle.std.proofs.Common.{◌≡◌, ◌≤◌, length}
use Rattle.kernel.proofs.watches.attach.count_clauses.Given as goal

abbrev pub invariant-loop-place : goal.invariant-loop-place
invariant-loop-place l = record {
  long : length l.counts ≡ length l.initial.counts;
  few : l.singles ≤ l.place;
}
