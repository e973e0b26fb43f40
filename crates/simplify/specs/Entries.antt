-- The clauses of a simplification by number, from 1 on: each that is there as its literals by rising
-- variable, each once, and none where a clause was dropped.
use Rattle.std.specs.Prelude.{◌≡◌, ℕ, ◌+◌, ◌-◌, ◌*◌, ◌≤◌, Bool, true, false, ◌||◌, List, [], ◌∷◌, length, Option, Some, None, is_some, slice_get, if◌then◌else◌}
use Rattle.std.specs.Option.{unwrap_or}
use Rattle.std.specs.List.{list_any}
use Rattle.theory.specs.Literals.{Literal, Clause, positive, negative, has, has_both_signs}
use Rattle.theory.specs.Truth.{IsOver}
use Rattle.theory.specs.Learning.{with_literals}
use Rattle.theory.specs.Checking.{is_empty}
use Rattle.theory.specs.Eliminating.{is_alone}

abbrev pub Entries : Type 0
Entries = List (Option Clause)

-- a number of variables, and the entries of clauses over them
pub record Clauses : Type 0 where
  pub vars : ℕ
  pub entries : Entries

-- the literals by rising variable, each once
abbrev pub set : Clause → Clause
set c = with_literals c []

-- over the variables 1 to V, by rising variable, each variable in one sign
pub record IsSet (V : ℕ) (c : Clause) : Type 0 where
  pub set : set c ≡ c
  pub one_sign : has_both_signs c ≡ false
  pub over : IsOver V c

-- what is kept of a clause of the formula
abbrev pub entry_of : Clause → Option Clause
entry_of c = if has_both_signs c then None else Some (set c)

-- the entry of a number
abbrev pub entry_at : Entries → ℕ → Option Clause
entry_at K n = unwrap_or (slice_get K (n - 1)) None

-- its clause, without literals where none is there
abbrev pub there : Entries → ℕ → Clause
there K n = unwrap_or (entry_at K n) []

-- a clause of this number is there
abbrev pub IsThere : Entries → ℕ → Type 0
IsThere K n = (1 ≤ n) × (n ≤ length K) × (is_some (entry_at K n) ≡ true)

-- the clauses that are there are sets over the variables 1 to V
abbrev pub AreSets : ℕ → Entries → Type 0
AreSets V K = (n : ℕ) (c : Clause) → entry_at K n ≡ Some c → IsSet V c

-- whether a clause is there that passes the test
abbrev pub passes : (Clause → Bool) → Option Clause → Bool
passes p None = false
passes p (Some c) = p c

-- the numbers, counted from n on, of those that pass
abbrev pub numbers_in : (Clause → Bool) → ℕ → Entries → List ℕ
numbers_in p n [] = []
numbers_in p n (e ∷ K) = if passes p e then n ∷ numbers_in p (n + 1) K else numbers_in p (n + 1) K

-- those of the clauses that have l
abbrev pub holding : Literal → Entries → List ℕ
holding l K = numbers_in (λ c. has c l) 1 K

-- those of the clauses that have l alone
abbrev pub units_in : Literal → Entries → List ℕ
units_in l K = numbers_in (is_alone l) 1 K

-- whether the clause is a unit clause of x
abbrev pub is_unit_of : ℕ → Clause → Bool
is_unit_of x c = is_alone (positive x) c || is_alone (negative x) c

abbrev pub has_unit_in : ℕ → Entries → Bool
has_unit_in x K = list_any (passes (is_unit_of x)) K

abbrev pub has_empty_in : Entries → Bool
has_empty_in K = list_any (passes is_empty) K

-- how many pairs x has, or 0 where it has a unit clause
abbrev pub weight_in : Entries → ℕ → ℕ
weight_in K x = if has_unit_in x K then 0 else length (holding (positive x) K) * length (holding (negative x) K)
