-- Sets of numbers below a bound.
use Rattle.std.specs.Prelude.{◌≡◌, ℕ, ◌<◌, ◌≤◌, ◌||◌, Bool, true, false, nat_eq, List, length, count_by, slice_index_or, if◌then◌else◌}
use Rattle.std.specs.List.{list_any}

-- a set of numbers below the bound, in the order in which they were put in
pub record NumberSet : Type 0 where
  pub bound : ℕ
  pub numbers : List ℕ

-- each number whose flag is set stands there once, and no other one
abbrev pub AreFlagged : List Bool → List ℕ → Type 0
AreFlagged flags numbers = (n : ℕ) → count_by (nat_eq n) numbers ≡ (if slice_index_or flags n false then 1 else 0)

-- whether a number is one of these
abbrev pub is_one_of : List ℕ → ℕ → Bool
is_one_of numbers n = list_any (nat_eq n) numbers

-- each number whose flag is set is one of these
abbrev pub AreAmong : List ℕ → List Bool → Type 0
AreAmong numbers flags = (n : ℕ) → slice_index_or flags n false ≡ true → is_one_of numbers n ≡ true

-- each place where a flag isn't set is one of these
abbrev pub AreSetBut : List ℕ → List Bool → Type 0
AreSetBut places flags = (n : ℕ) → n < length flags → slice_index_or flags n false ≡ false → is_one_of places n ≡ true

-- the same numbers, and this one
abbrev pub AreWith : ℕ → List ℕ → List ℕ → Type 0
AreWith number before after = (n : ℕ) → is_one_of after n ≡ (nat_eq n number || is_one_of before n)

-- no number stands there twice
abbrev pub StandOnce : List ℕ → Type 0
StandOnce numbers = (n : ℕ) → count_by (nat_eq n) numbers ≤ 1
