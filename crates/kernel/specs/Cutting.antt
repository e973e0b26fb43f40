-- The clauses from a place on are cut off.
use Rattle.std.specs.Prelude.{◌≡◌, ℕ, ◌<◌, ◌≤◌, List, [], ◌⊎◌, slice_index_or}
use Rattle.std.specs.List.{Contains}
use Rattle.kernel.specs.declared.watches.watch.Watched.{Watched}
use Rattle.kernel.specs.declared.watches.watch.Watch.{Watch}
use Rattle.cnf.specs.Lits.{code}
use Rattle.kernel.specs.Watching.{At}
use Rattle.kernel.specs.Visiting.{places}

-- the entries of a list that are of clauses below `first`, in some order
pub record IsKeptBelow (first : ℕ) (old new : List Watch) : Type 0 where
  pub below : (p : ℕ) (x : Watch) → At new p x → x.clause < first
  pub was : (p : ℕ) (x : Watch) → At new p x → (q : ℕ) × At old q x
  pub stays : (p : ℕ) (x : Watch) → At old p x → x.clause < first → Contains (places new) x.clause
  pub once : (n : ℕ) → ((a b : ℕ) → At (places old) a n → At (places old) b n → a ≡ b) → (a b : ℕ) → At (places new) a n → At (places new) b n → a ≡ b

-- that is so of the lists named, and the others are as they were
abbrev pub AreKeptBelow : ℕ → List ℕ → List (List Watch) → List (List Watch) → Type 0
AreKeptBelow first codes old new = (i : ℕ) → (IsKeptBelow first (slice_index_or old i []) (slice_index_or new i []))
    ⊎ ((Contains codes i → ⊥) × (slice_index_or new i [] ≡ slice_index_or old i []))

-- the lists of the literals that clauses from `first` on watch are named
abbrev pub AreCodesOf : ℕ → List Watched → List ℕ → Type 0
AreCodesOf first pairs codes = (n : ℕ) (w : Watched) → first ≤ n → At pairs n w → Contains codes (code w.first) × Contains codes (code w.second)
