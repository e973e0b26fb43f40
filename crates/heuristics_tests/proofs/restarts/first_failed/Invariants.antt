use Rattle.std.proofs.Common.{◌≤◌}
use Rattle.heuristics_tests.proofs.restarts.first_failed.Given as goal

abbrev pub invariant-loop-place : goal.invariant-loop-place
invariant-loop-place l = l.glues.glues.count ≤ l.place
