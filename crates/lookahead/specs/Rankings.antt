-- Variables by falling rank.
use Rattle.std.specs.Prelude.{ℕ, zero, suc, nat_lt, nat_eq, Bool, ◌&&◌, ◌||◌, List, [], ◌∷◌, map, filter, if◌then◌else◌}
use Rattle.std.specs.List.Sorted.{IsPermutation, IsSortedBy}
use Rattle.theory.specs.Literals.{Literal, Clause, has_var}
use Rattle.theory.specs.Trails.{variables}
use Rattle.theory.specs.Held.{is_held}
use Rattle.theory.specs.Looking.{rank}
use Rattle.lookahead.specs.declared.ranking.Ranked.{Ranked}

-- that of greater rank goes first, of the same rank the greater variable
abbrev pub goes_before : Ranked → Ranked → Bool
goes_before a b = nat_lt b.rank a.rank || (nat_eq a.rank b.rank && nat_lt b.var a.var)

abbrev pub ranked_by : (ℕ → ℕ) → ℕ → Ranked
ranked_by rank v = record { rank = rank v; var = v }

-- those of the variables 1 to V that the clauses K hold stand in this order, each with its rank
-- among these
pub record IsRanking (V : ℕ) (K : List Clause) (rs : List Ranked) : Type 0 where
  pub permutation : IsPermutation (map (ranked_by (rank K)) (filter (is_held K) (variables V))) rs
  pub sorted : IsSortedBy goes_before rs

-- the first n of them that have no literal in P
abbrev pub first_free : ℕ → List Literal → List Ranked → List ℕ
first_free zero P rs = []
first_free (suc n) P [] = []
first_free (suc n) P (r ∷ rs) = if has_var P r.var then first_free (suc n) P rs else r.var ∷ first_free n P rs
