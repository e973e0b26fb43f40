-- Clauses whose literals lie one behind the other in one list.
use Rattle.std.specs.Prelude.{◌≡◌, ℕ, zero, suc, ◌+◌, ◌<◌, ◌≤◌, List, [], ◌∷◌, false, length, map, Some, slice_get, if◌then◌else◌}
use Rattle.std.specs.List.{slice_range}
use Rattle.theory.specs.Literals.{Literal}
use Rattle.theory.specs.Truth.{IsOver}
use Rattle.lrat.specs.Slots.{Slot}
use Rattle.lrat.specs.declared.clauses.Head.{Head}

abbrev pub slot_in : List Literal → Head → Slot
slot_in lits h = record { id = h.id; is_there = h.is_there; clause = slice_range lits h.start h.end }

abbrev pub slots_in : List Literal → List Head → List Slot
slots_in lits heads = map (slot_in lits) heads

-- each head's literals are some of the list's
abbrev pub AreWithin : List Literal → List Head → Type 0
AreWithin lits heads = (i : ℕ) (h : Head) → slice_get heads i ≡ Some h → (h.start ≤ h.end) × (h.end ≤ length lits)

-- the formula's clauses come first, by falling numbers from their count to 1, each for good; then
-- the added ones, by rising numbers above that
pub record AreInOrder (first : ℕ) (heads : List Head) : Type 0 where
  pub whole : first ≤ length heads
  pub of_formula : (i : ℕ) (h : Head) → slice_get heads i ≡ Some h → i < first → h.id + i ≡ first
  pub added : (i : ℕ) (h : Head) → slice_get heads i ≡ Some h → first ≤ i → first < h.id
  pub rising : (i j : ℕ) (h k : Head) → slice_get heads i ≡ Some h → slice_get heads j ≡ Some k → first ≤ i → i < j → h.id < k.id

-- the literals and the heads of clauses over the variables 1 to vars
pub record AreFlat (vars first : ℕ) (lits : List Literal) (heads : List Head) : Type 0 where
  pub within : AreWithin lits heads
  pub order : AreInOrder first heads
  pub over : (i : ℕ) (h : Head) → slice_get heads i ≡ Some h → IsOver vars (slice_range lits h.start h.end)

-- a formula's clause that was taken away keeps its place without its literals, and an added one
-- leaves none
abbrev pub emptied : Slot → Slot
emptied s = if s.is_there then s else record { id = s.id; is_there = s.is_there; clause = [] }

abbrev pub packed : ℕ → List Slot → List Slot
packed n [] = []
packed zero (s ∷ ss) = if s.is_there then s ∷ packed zero ss else packed zero ss
packed (suc n) (s ∷ ss) = emptied s ∷ packed n ss

-- clauses that were taken away have no literals
abbrev pub AreEmptied : List Slot → Type 0
AreEmptied ss = (i : ℕ) (s : Slot) → slice_get ss i ≡ Some s → s.is_there ≡ false → s.clause ≡ []

-- no slot has a number above n
abbrev pub AreUpTo : ℕ → List Slot → Type 0
AreUpTo n ss = (i : ℕ) (s : Slot) → slice_get ss i ≡ Some s → s.id ≤ n
