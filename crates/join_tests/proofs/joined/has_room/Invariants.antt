use Rattle.std.proofs.Common.{length}
use Rattle.join.specs.Walking.{IsBetweenLines, lines_left}
use Rattle.join_tests.proofs.joined.has_room.Given as goal

abbrev pub invariant-loop-lines : goal.invariant-loop-lines
invariant-loop-lines l = IsBetweenLines l.lines

-- fewer lines are left each time
abbrev pub decreases-loop-lines : goal.decreases-loop-lines
decreases-loop-lines l = length (lines_left l.lines)
