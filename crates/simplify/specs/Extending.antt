-- The eliminated variables as they are kept, and what gives them their values.
use Rattle.std.specs.Prelude.{ℕ, List, [], ◌∷◌, All}
use Rattle.theory.specs.Literals.{Clause, IsVariable}
use Rattle.theory.specs.Truth.{IsOver}
use Rattle.theory.specs.Simplifying.{Eliminated}

-- each of the variables with its clauses
abbrev pub eliminated_of : List ℕ → List (List Clause) → List Eliminated
eliminated_of [] css = []
eliminated_of (x ∷ xs) [] = []
eliminated_of (x ∷ xs) (cs ∷ css) = record { var = x; clauses = cs } ∷ eliminated_of xs css

-- they are among the variables 1 to V, and so are those of their clauses
abbrev pub AreOver : ℕ → List Eliminated → Type 0
AreOver V es = All (λ e. IsVariable V e.var × All (IsOver V) e.clauses) es
