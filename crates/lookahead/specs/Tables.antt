-- Tables by literal.
use Rattle.std.specs.Prelude.{◌≡◌, ℕ, ◌≤◌, nat_eq, List, slice_index_or}
use Rattle.theory.specs.Literals.{Literal, Clause, has}
use Rattle.theory.specs.Looking.{occurrences}
use Rattle.cnf.specs.Lits.{code}

-- what stands at a place of a table
abbrev pub at : List ℕ → ℕ → ℕ
at table i = slice_index_or table i 0

-- of the literals over V just those of the clause have its number, and none has a greater one
pub record AreStamped (V number : ℕ) (c : Clause) (stamps : List ℕ) : Type 0 where
  pub stamped : (l : Literal) → l.var ≤ V → nat_eq (at stamps (code l)) number ≡ has c l
  pub within : (i : ℕ) → at stamps i ≤ number

-- the table has, of each literal over V, in how many clauses it stands
abbrev pub AreOccurrences : ℕ → List Clause → List ℕ → Type 0
AreOccurrences V K counts = (l : Literal) → l.var ≤ V → at counts (code l) ≡ occurrences K l
