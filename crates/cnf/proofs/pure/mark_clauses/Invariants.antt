use Rattle.std.proofs.Common.{◌≡◌, ℕ, ◌||◌, length, drop}
use Rattle.theory.specs.Literals.{IsVariable, positive}
use Rattle.theory.specs.Truth.{value}
use Rattle.theory.specs.Pure.{occurs}
use Rattle.cnf.proofs.pure.mark_clauses.Given as goal

-- the marks and the clauses that are left give the marks at the end
abbrev pub invariant-loop-place : goal.invariant-loop-place
invariant-loop-place l =
    (length l.seen ≡ l.formula.vars)
    × ((v : ℕ) → IsVariable (length l.seen) v →
    (value l.seen v || occurs (drop l.place l.formula.clauses) (positive v)) ≡ (value l.initial.seen v || occurs l.formula.clauses (positive v)))
