-- A clause that comes to the end and is watched.
use Rattle.std.specs.Prelude.{◌≡◌, ℕ, ◌+◌, ◌*◌, ◌<◌, ◌≤◌, Bool, true, false, List, [], ◌∷◌, ◌++◌, length, Option, Some, cond, slice_set, ◌⊎◌}
use Rattle.std.specs.List.{list_all, Contains}
use Rattle.theory.specs.Literals.{Literal, Clause, same, has}
use Rattle.theory.specs.Trails.{Trail, level_of}
use Rattle.kernel.specs.declared.watches.watch.Watched.{Watched}
use Rattle.kernel.specs.declared.watches.watch.Watch.{Watch}
use Rattle.cnf.specs.Lits.{code}
use Rattle.kernel.specs.Watching.{At, Reached, WasUnit, IsServed}
use Rattle.kernel.specs.Visiting.{WatchLists, entries_at, tending, AreEntries}

-- an entry more in the list of a literal
abbrev pub with_entry : List (List Watch) → Literal → Watch → List (List Watch)
with_entry lists l e = slice_set lists (code l) (entries_at lists l ++ e ∷ [])

-- the entries of the clause at n in the lists of the two literals that it watches, or of the only
-- one
abbrev pub attached : List (List Watch) → Watched → ℕ → Bool → List (List Watch)
attached lists w n short =
    cond (same w.first w.second) (with_entry lists w.first record { clause = n; blocker = w.second; is_short = short })
    (with_entry (with_entry lists w.first record { clause = n; blocker = w.second; is_short = short }) w.second record { clause = n; blocker = w.first; is_short = short })

-- the clauses of one literal among the first ones, and the least empty one
pub record IsBase (first : ℕ) (K : List Clause) (single : List ℕ) (least_empty : Option ℕ) : Type 0 where
  pub all_singles : (n : ℕ) (c : Clause) (y : Literal) → n < first → At K n c → has c y ≡ true → list_all (same y) c ≡ true → Contains single n
  pub singles : (n : ℕ) → Contains single n → (n < first) × ((c : Clause) → At K n c → WasUnit [] c)
  pub empty : (n : ℕ) → least_empty ≡ Some n → (n < first) × At K n []
  pub empties : (n : ℕ) → n < first → At K n [] → Reached least_empty n
  pub learnt : (n : ℕ) → first ≤ n → At K n [] → ⊥

-- what is true of the watches of a kernel that has not met want of memory
pub record IsWatching (V first : ℕ) (K : List Clause) (T : Trail) (at floor : ℕ) (k : WatchLists) (single : List ℕ) (least_empty : Option ℕ) : Type 0 where
  pub lists : length k.lists ≡ 2 * V + 2
  pub served : IsServed floor K T at (tending k)
  pub entries : AreEntries K k
  pub within : at ≤ length T
  pub base : IsBase first K single least_empty

-- whether a literal other than `free` is of a greater level than the latest one so far, which is
-- `free` before the first
abbrev pub IsLater : Trail → Literal → Literal → Literal → Bool → Type 0
IsLater T free latest l true = (same l free ≡ false) × ((same latest free ≡ true) ⊎ (level_of T latest < level_of T l))
IsLater T free latest l false = (same l free ≡ true) ⊎ ((same latest free ≡ false) × (level_of T l ≤ level_of T latest))
