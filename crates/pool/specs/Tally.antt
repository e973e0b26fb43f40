-- The notes of an order of what several hands did, spread over views: each view has the notes of
-- some hands, each hand's with its number.
use Rattle.std.specs.Prelude.{◌≡◌, ℕ, ◌<◌, ◌≤◌, List, []}
use mathlib.Core.Option.{some}
use lib.ListN.{get_elem?}
use Rattle.theory.specs.Order.{entries_of}

module _ {X : Type 0} where
  -- the notes of one view: each has its seat, its hand's number is below `made`, and it is what
  -- that hand did
  abbrev pub Fits : (ℕ → ℕ × ℕ) → ℕ → List (ℕ × X) → ℕ → List (ℕ × List X) → Type 0
  Fits seat made order port notes = (i : ℕ) (n : ℕ × List X) → get_elem? notes i ≡ some n → (seat n.0 ≡ (port, i)) × (n.0 < made) × (entries_of n.0 order ≡ n.1)

  -- The notes of all views are of one order. A hand's seat is the view, and the place there, where
  -- its notes are: so no two views have the notes of one hand.
  abbrev pub Tally : {V : Type 0} → (V → List (ℕ × List X)) → ℕ → List (ℕ × X) → List V → Type 0
  Tally {V} notes made order views = (seat : ℕ → ℕ × ℕ) × ((k : ℕ) → made ≤ k → entries_of k order ≡ [])
      × ((port : ℕ) (v : V) → get_elem? views port ≡ some v → Fits seat made order port (notes v))
