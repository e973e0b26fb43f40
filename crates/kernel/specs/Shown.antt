-- Clauses as they are kept: one that was forgotten takes no room for literals.
use Rattle.std.specs.Prelude.{ℕ, zero, suc, ◌+◌, Bool, List, [], ◌∷◌, map, if◌then◌else◌}
use Rattle.theory.specs.Literals.{Clause}
use Rattle.theory.specs.Forgetting.{forgotten}

-- what a clause that may be forgotten stands for
abbrev pub whole : Clause → Clause
whole [] = forgotten
whole (l ∷ c) = l ∷ c

-- what is kept stands for these clauses: behind the first ones, one without literals was forgotten
abbrev pub shown : ℕ → List Clause → List Clause
shown zero K = map whole K
shown (suc first) [] = []
shown (suc first) (c ∷ K) = c ∷ shown first K

-- the clauses from the place n on, without the literals of those that are gone
abbrev pub emptied : (ℕ → Bool) → ℕ → List Clause → List Clause
emptied gone n [] = []
emptied gone n (c ∷ K) = (if gone n then [] else c) ∷ emptied gone (n + 1) K
