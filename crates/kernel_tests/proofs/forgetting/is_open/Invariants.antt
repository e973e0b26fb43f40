use Rattle.std.proofs.Common.{◌≡◌, ℕ, ◌≤◌, ◌-◌, false, length}
use Rattle.theory.specs.Status.{is_false}
use Rattle.theory.specs.Trails.{literals}
use Rattle.theory.specs.Propagation.{clause_at}
use Rattle.kernel_tests.proofs.forgetting.is_open.Given as goal

-- none of the clauses up to the number is false
abbrev pub invariant-loop-number : goal.invariant-loop-number
invariant-loop-number l = record {
  none : (n : ℕ) → 1 ≤ n → n ≤ l.number → is_false (literals l.kernel.trail) (clause_at l.kernel.clauses n) ≡ false;
  within : l.number ≤ length l.kernel.clauses;
}

abbrev pub decreases-loop-number : goal.decreases-loop-number
decreases-loop-number l = length l.kernel.clauses - l.number
