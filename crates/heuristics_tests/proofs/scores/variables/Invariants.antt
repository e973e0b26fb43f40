use Rattle.std.proofs.Common.{◌≡◌, length}
use Rattle.heuristics_tests.specs.Counted.{AreFromOne}
use Rattle.heuristics_tests.proofs.scores.variables.Given as goal

abbrev pub invariant-loop-place : goal.invariant-loop-place
invariant-loop-place l = (length l.all.items ≡ l.place) × AreFromOne l.all.items
