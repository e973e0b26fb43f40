use Rattle.std.proofs.Common.{◌≡◌, length}
use Rattle.heuristics.specs.Rankings.{vars_of}
use Rattle.heuristics_tests.proofs.scores.first_failed.Given as goal

abbrev pub invariant-loop-place : goal.invariant-loop-place
invariant-loop-place l = vars_of l.scores ≡ length l.all
