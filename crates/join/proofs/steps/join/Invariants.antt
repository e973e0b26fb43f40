use Rattle.std.proofs.Common.{◌≡◌, ◌++◌, map, length, All}
use Rattle.theory.specs.ProofReading.{IsStep}
use Rattle.lrat_text.specs.Steps.{step_of}
use Rattle.join.specs.Walking.{IsBetweenLines, lines_left}
use Rattle.join.proofs.steps.join.Given as goal

-- the lines that are left give the rest
abbrev pub invariant-loop-steps : goal.invariant-loop-steps
invariant-loop-steps l = record {
  lawful : IsBetweenLines l.lines;
  within : All IsStep (map step_of l.steps.items);
  whole : map step_of l.steps.items ++ lines_left l.lines ≡ lines_left l.initial.lines;
}

abbrev pub decreases-loop-steps : goal.decreases-loop-steps
decreases-loop-steps l = length (lines_left l.lines)
