use Rattle.std.proofs.Common.{◌≡◌, ℕ, ◌||◌, length, drop}
use Rattle.theory.specs.Literals.{IsVariable, has, positive}
use Rattle.theory.specs.Truth.{value}
use Rattle.cnf.proofs.pure.mark_clause.Given as goal

-- the marks and the literals that are left give the marks at the end
abbrev pub invariant-loop-lit : goal.invariant-loop-lit
invariant-loop-lit l =
    (v : ℕ) → IsVariable (length l.seen) v → (value l.seen v || has (drop l.lit-index l.clause) (positive v)) ≡ (value l.initial.seen v || has l.clause (positive v))
