use Rattle.std.proofs.Common.{◌≡◌, ◌-◌, ℕ, List, true, drop, take}
use Rattle.theory.specs.Literals.{Literal, Clause, without}
use Rattle.theory.specs.Trails.{literals}
use Rattle.theory.specs.Status.{is_false}
use Rattle.theory.specs.Learning.{with_literals}
use Rattle.cdcl.specs.Marks.{IsSet}
use Rattle.cdcl.specs.Removing.{AreSettled}
use Rattle.cdcl.proofs.analysis.below.put_others.Given as goal

-- the literals from the end are in
abbrev pub invariant-loop-done : goal.invariant-loop-done
invariant-loop-done l = record {
  set : (R : List Literal) → (S : Clause) → (bound : ℕ) → is_false (literals (take bound l.kernel.trail)) (without l.clause l.except) ≡ true → AreSettled l.kernel.trail R S (without l.clause l.except)
      → IsSet l.kernel R S bound l.initial.marks → IsSet l.kernel R (with_literals (without (drop (l.count - l.done) l.clause) l.except) S) bound l.marks;
}
