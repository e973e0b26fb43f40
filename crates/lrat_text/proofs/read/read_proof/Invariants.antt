use Rattle.std.proofs.Common.{◌≡◌, ◌+◌, ◌-◌, ◌≤◌, length, drop, map}
use Rattle.theory.specs.Tokens.{lines_of}
use Rattle.lrat_text.specs.Steps.{step_of}
use Rattle.lrat_text.specs.LineMachine.{read_lines, with_steps}
use Rattle.lrat_text.proofs.ProofTexts.{reading_of_text}
use Rattle.lrat_text.proofs.read.read_proof.Given as goal

-- the steps so far, and what is left, are what the text is read as
abbrev pub invariant-loop-at : goal.invariant-loop-at
invariant-loop-at l = record {
  inside : l.at ≤ length l.bytes;
  lines : l.number ≤ l.at + 1;
  left : with_steps (map step_of l.steps.items) (read_lines l.number (lines_of (drop l.at l.bytes))) ≡ reading_of_text l.bytes;
}

abbrev pub decreases-loop-at : goal.decreases-loop-at
decreases-loop-at l = length l.bytes - l.at
