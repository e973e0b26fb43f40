use Rattle.std.proofs.Common.{length}
use Rattle.join.specs.Walking.{IsBetweenLines, lines_left}
use Rattle.join_tests.proofs.joined.proof_of.Given as goal

abbrev pub invariant-loop-text : goal.invariant-loop-text
invariant-loop-text l = IsBetweenLines l.lines

-- fewer lines are left each time
abbrev pub decreases-loop-text : goal.decreases-loop-text
decreases-loop-text l = length (lines_left l.lines)
