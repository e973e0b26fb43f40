use Rattle.std.proofs.Common.{◌+◌}
use Rattle.heuristics_tests.specs.Numbered.{AreNumberedBelow}
use Rattle.heuristics_tests.proofs.forgetting.numbered.Given as goal

abbrev pub invariant-loop-place : goal.invariant-loop-place
invariant-loop-place l = AreNumberedBelow (11 + l.place) l.candidates.items
