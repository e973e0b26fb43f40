-- What is kept beside the clauses of a simplification: which of them are there, and by a literal's
-- code the numbers of those that hold it and how many they are.
use Rattle.std.specs.Prelude.{◌≡◌, ℕ, ◌+◌, ◌-◌, ◌*◌, ◌^◌, ◌<◌, ◌≤◌, Bool, false, nat_eq, List, [], ◌∷◌, ◌++◌, length, replicate, filter, count_by, All, Some, None, slice_index, slice_index_or, if◌then◌else◌}
use Rattle.std.specs.List.{list_any}
use Rattle.cnf.specs.Lits.{code}
use Rattle.theory.specs.Literals.{Clause}
use Rattle.theory.specs.Truth.{Formula}
use Rattle.theory.specs.Checking.{is_empty}
use Rattle.simplify.specs.Entries.{Entries, passes, numbers_in, is_unit_of, AreSets}

-- the entries of these clauses, of which those are there that have true
abbrev pub entries_of : List Bool → List Clause → Entries
entries_of [] S = []
entries_of (b ∷ there) [] = []
entries_of (b ∷ there) (c ∷ S) = (if b then Some c else None) ∷ entries_of there S

-- whether the clause of number n is there
abbrev pub is_live : List Bool → ℕ → Bool
is_live there n = slice_index_or there (n - 1) false

-- whether the clause has the literal of a code, and how often
abbrev pub has_code : ℕ → Clause → Bool
has_code j c = list_any (λ k. nat_eq (code k) j) c

abbrev pub times : ℕ → Clause → ℕ
times j c = count_by (λ k. nat_eq (code k) j) c

-- the numbers by code
abbrev pub list_at : List (List ℕ) → ℕ → List ℕ
list_at L j = slice_index_or L j []

-- how many of the clauses there pass
abbrev pub passing : (Clause → Bool) → Entries → ℕ
passing p K = count_by (passes p) K

-- L has by code the numbers of the clauses there with the literal, among some of clauses that are
-- gone
pub record AreLists (there : List Bool) (K : Entries) (L : List (List ℕ)) : Type 0 where
  pub live : (j : ℕ) → j < length L → filter (is_live there) (list_at L j) ≡ numbers_in (has_code j) 1 K
  pub within : (j : ℕ) → All (λ n. (1 ≤ n) × (n ≤ length there)) (list_at L j)

-- by code how many clauses have the literal, by variable how many have a literal of it alone, and how
-- many have none
pub record Counted : Type 0 where
  pub literals : List ℕ
  pub units : List ℕ
  pub empty : ℕ

-- of V variables, without clauses
abbrev pub none_counted : ℕ → Counted
none_counted V = record { literals = replicate (2 * V + 2) 0; units = replicate (V + 1) 0; empty = 0 }

abbrev pub one_if : Bool → ℕ
one_if b = if b then 1 else 0

-- D counts the clause too
pub record IsOneMore (C : Counted) (c : Clause) (D : Counted) : Type 0 where
  pub by_code : length D.literals ≡ length C.literals
  pub by_variable : length D.units ≡ length C.units
  pub literals : (j : ℕ) → slice_index D.literals j ≡ slice_index C.literals j + one_if (has_code j c)
  pub units : (v : ℕ) → slice_index D.units v ≡ slice_index C.units v + one_if (is_unit_of v c)
  pub empty : D.empty ≡ C.empty + one_if (is_empty c)

-- C counts the clause
pub record IsCounted (C : Counted) (c : Clause) : Type 0 where
  pub literals : (j : ℕ) → one_if (has_code j c) ≤ slice_index C.literals j
  pub units : (v : ℕ) → one_if (is_unit_of v c) ≤ slice_index C.units v
  pub empty : one_if (is_empty c) ≤ C.empty

-- one clause more can be counted
pub record HasRoom (C : Counted) : Type 0 where
  pub literals : (j : ℕ) → slice_index C.literals j + 1 < 2 ^ 32
  pub units : (v : ℕ) → slice_index C.units v + 1 < 2 ^ 32
  pub empty : C.empty + 1 < 2 ^ 32

-- the counts are those of the clauses there
pub record AreCounts (K : Entries) (C : Counted) : Type 0 where
  pub literals : (j : ℕ) → j < length C.literals → slice_index C.literals j ≡ passing (has_code j) K
  pub units : (v : ℕ) → v < length C.units → slice_index C.units v ≡ passing (is_unit_of v) K
  pub empty : C.empty ≡ passing is_empty K

-- the lists with a number more for each literal of the clause
abbrev pub AreListed : List (List ℕ) → Clause → ℕ → List (List ℕ) → Type 0
AreListed L c n M = (length M ≡ length L) × ((j : ℕ) → list_at M j ≡ list_at L j ++ replicate (times j c) n)

-- all of it, beside the sets of the clauses
pub record AreTables (F : Formula) (there : List Bool) (L : List (List ℕ)) (C : Counted) : Type 0 where
  pub each : length there ≡ length F.clauses
  pub lists_by_code : length L ≡ 2 * F.vars + 2
  pub counts_by_code : length C.literals ≡ 2 * F.vars + 2
  pub units_by_variable : length C.units ≡ F.vars + 1
  pub sets : AreSets F.vars (entries_of there F.clauses)
  pub lists : AreLists there (entries_of there F.clauses) L
  pub counts : AreCounts (entries_of there F.clauses) C
