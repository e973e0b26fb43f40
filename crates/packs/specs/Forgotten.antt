-- Which of a cube's lines so far are forgotten.
use Rattle.std.specs.Prelude.{◌≡◌, ℕ, ◌+◌, ◌-◌, ◌<◌, ◌≤◌, Bool, true, false, ◌&&◌, nat_lt, List, length, get_or}
use Rattle.theory.specs.Deletions.{is_among, are_different}

-- whether the line of number k is marked, where those behind N clauses are numbered from N + 1 on
abbrev pub is_marked : ℕ → List Bool → ℕ → Bool
is_marked N marks k = nat_lt N k && get_or marks (k - N - 1) false

-- just the lines of these numbers are marked
abbrev pub AreMarked : ℕ → List Bool → List ℕ → Type 0
AreMarked N marks gone = (k : ℕ) → is_among k gone ≡ is_marked N marks k

-- none of the numbers is that of a marked line
abbrev pub AreClear : ℕ → List Bool → List ℕ → Type 0
AreClear N marks numbers = (k : ℕ) → is_marked N marks k ≡ true → is_among k numbers ≡ false

-- there is a line of number k, and it isn't marked
pub record IsThere (N : ℕ) (marks : List Bool) (k : ℕ) : Type 0 where
  pub behind : N < k
  pub before : k ≤ N + length marks
  pub left : is_marked N marks k ≡ false

-- so it is of each of the numbers, which are distinct
pub record AreOwn (N : ℕ) (marks : List Bool) (numbers : List ℕ) : Type 0 where
  pub distinct : are_different numbers ≡ true
  pub own : (k : ℕ) → is_among k numbers ≡ true → IsThere N marks k
