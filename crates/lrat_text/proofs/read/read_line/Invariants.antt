use Rattle.std.proofs.Common.{◌≡◌, ◌-◌, ◌≤◌, length, drop}
use Rattle.theory.specs.Tokens.{lines_of}
use Rattle.lrat_text.specs.LineMachine.{IsWithin, within, read_lines}
use Rattle.lrat_text.specs.LineStates.{state_of}
use Rattle.lrat_text.proofs.read.read_line.Given as goal

-- what is left of the line is read as the whole line is
abbrev pub invariant-loop-at : goal.invariant-loop-at
invariant-loop-at l = record {
  from : l.start ≤ l.at;
  inside : l.at ≤ length l.bytes;
  numbers : IsWithin (state_of l.line);
  left : within (state_of l.line) l.number (lines_of (drop l.at l.bytes)) ≡ read_lines l.number (lines_of (drop l.start l.bytes));
}

abbrev pub decreases-loop-at : goal.decreases-loop-at
decreases-loop-at l = length l.bytes - l.at
