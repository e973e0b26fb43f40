-- The lines before those of a tree, one by one.
use Rattle.std.proofs.Common.{◌≡◌, ℕ, ◌+◌, ◌<◌, List, [], ◌∷◌, length, refl, ap, sym, arith}
use Rattle.theory.specs.Literals.{Clause}
use Rattle.theory.specs.Learning.{Line}
use Rattle.theory.specs.Steps.{Step, add, delete}
use Rattle.simplify.specs.Made.{steps_from}

-- where a line has no hints, it deletes
pub before-deletion : (last : ℕ) (clause : Clause) (numbers forgets : List ℕ) (rows : List Line) (step : Step) → length numbers ≡ 0 → step ≡ delete (record { id = last; ids = forgets })
    → steps_from last (record { clause = clause; hints = numbers; forgets = forgets } ∷ rows) ≡ step ∷ steps_from last rows
before-deletion last clause [] forgets rows step none is = ap (λ s. s ∷ steps_from last rows) (sym is)
before-deletion last clause (h ∷ hs) forgets rows step none is = absurd (cc)

-- and else it adds a clause
pub before-addition : (last : ℕ) (clause : Clause) (numbers forgets : List ℕ) (rows : List Line) → 0 < length numbers
    → steps_from last (record { clause = clause; hints = numbers; forgets = forgets } ∷ rows) ≡ add (record { id = last + 1; clause = clause; hints = numbers; groups = [] }) ∷ steps_from (last + 1) rows
before-addition last clause [] forgets rows some = absurd (omega arith)
before-addition last clause (h ∷ hs) forgets rows some = refl
