-- Lists that lie one behind the other in one list, each up to its end.
use Rattle.std.specs.Prelude.{◌≡◌, ℕ, zero, suc, ◌≤◌, List, [], ◌∷◌, slice_index}
use Rattle.std.specs.List.{slice_range}

-- the lists, the first of which begins at a place
abbrev pub pieces : {X : Type 0} → ℕ → List X → List ℕ → List (List X)
pieces from xs [] = []
pieces from xs (end ∷ ends) = slice_range xs from end ∷ pieces end xs ends

-- the ends begin at least at a place, never fall, and come to n
abbrev pub AreEnds : ℕ → List ℕ → ℕ → Type 0
AreEnds from [] n = from ≡ n
AreEnds from (end ∷ ends) n = (from ≤ end) × AreEnds end ends n

-- where the list at a place begins
abbrev pub start_at : ℕ → List ℕ → ℕ → ℕ
start_at from ends zero = from
start_at from ends (suc i) = slice_index ends i
