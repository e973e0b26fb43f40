-- The clauses of one literal among those from a place on.
use Rattle.std.specs.Prelude.{◌≡◌, ℕ, ◌<◌, ◌≤◌, true, List, [], ◌∷◌, ◌++◌, ◌⊎◌, if◌then◌else◌}
use Rattle.std.specs.List.{Contains}
use Rattle.theory.specs.Literals.{same}
use Rattle.kernel.specs.declared.watches.watch.Watched.{Watched}
use Rattle.kernel.specs.Watching.{At}

-- the clause at a place comes behind the others, if it watches one literal twice
abbrev pub NotesSingle : List Watched → ℕ → List ℕ → List ℕ → Type 0
NotesSingle pairs n old new = (w : Watched) → At pairs n w → new ≡ (if same w.first w.second then old ++ n ∷ [] else old)

-- those from `first` on and before `end` do
pub record AreSinglesTo (pairs : List Watched) (first end : ℕ) (old new : List ℕ) : Type 0 where
  pub stay : (n : ℕ) → Contains old n → Contains new n
  pub all : (n : ℕ) (w : Watched) → first ≤ n → n < end → At pairs n w → same w.first w.second ≡ true → Contains new n
  pub only : (n : ℕ) → Contains new n → Contains old n ⊎ ((first ≤ n) × (n < end) × ((w : Watched) → At pairs n w → same w.first w.second ≡ true))
