use Rattle.std.proofs.Common.{ℕ, ◌≤◌, ◌-◌, length, All}
use Rattle.theory.specs.ProofReading.{IsLiteral}
use Rattle.lrat_text.specs.LineMachine.{at_clause}
use Rattle.lrat_text.specs.Runs.{TakesRun}
use Rattle.lrat_text.proofs.run.take_literals.Given as goal

abbrev pub invariant-loop-at : goal.invariant-loop-at
invariant-loop-at l = record {
  taken : (id : ℕ) → TakesRun l.bytes (at_clause id l.fn.clause.items) l.start (at_clause id l.clause.items) l.at;
  literals : All IsLiteral l.fn.clause.items → All IsLiteral l.clause.items;
  forward : l.start ≤ l.at;
  within : l.at ≤ length l.bytes;
}

abbrev pub decreases-loop-at : goal.decreases-loop-at
decreases-loop-at l = length l.bytes - l.at
