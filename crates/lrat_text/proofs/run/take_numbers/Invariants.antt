use Rattle.std.proofs.Common.{ℕ, List, ◌≤◌, ◌-◌, length, All}
use Rattle.theory.specs.ProofReading.{IsNumber}
use Rattle.lrat_text.specs.LineMachine.{LineState}
use Rattle.lrat_text.specs.Runs.{TakesNumbers, TakesRun}
use Rattle.lrat_text.proofs.run.take_numbers.Given as goal

abbrev pub invariant-loop-at : goal.invariant-loop-at
invariant-loop-at l = record {
  taken : (f : List ℕ → LineState) → TakesNumbers f → TakesRun l.bytes (f l.fn.numbers.items) l.start (f l.numbers.items) l.at;
  numbers : All IsNumber l.fn.numbers.items → All IsNumber l.numbers.items;
  forward : l.start ≤ l.at;
  within : l.at ≤ length l.bytes;
}

abbrev pub decreases-loop-at : goal.decreases-loop-at
decreases-loop-at l = length l.bytes - l.at
