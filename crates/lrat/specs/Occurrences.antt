-- Where the clauses are that have a literal.
use Rattle.std.specs.Prelude.{◌≡◌, ℕ, ◌+◌, ◌<◌, ◌≤◌, true, List, [], ◌∷◌, length, Some, slice_get, slice_index_or, if◌then◌else◌}
use Rattle.theory.specs.Literals.{Literal, has}
use Rattle.cnf.specs.Lits.{code}
use Rattle.lrat.specs.declared.chains.Chains.{Chains}
use Rattle.lrat.specs.Chained.{IsIn}
use Rattle.lrat.specs.Slots.{Slot}

-- each slot below the count that is there is in the chain of each literal of its clause
abbrev pub AreEntered : List Slot → Chains → ℕ → Type 0
AreEntered slots c count = (i : ℕ) (s : Slot) (l : Literal) → i < count → slice_get slots i ≡ Some s → s.is_there ≡ true → has s.clause l ≡ true → IsIn c (code l) i

abbrev pub count_at : List ℕ → ℕ → ℕ
count_at counts n = slice_index_or counts n 0

-- how many slots that are there have the literal
abbrev pub slots_with : Literal → List Slot → ℕ
slots_with l [] = 0
slots_with l (s ∷ ss) = (if s.is_there then (if has s.clause l then 1 else 0) else 0) + slots_with l ss

-- the slots that are there were there
pub record StayThere (old new : List Slot) : Type 0 where
  pub there : (i : ℕ) (s : Slot) → i < length old → slice_get new i ≡ Some s → s.is_there ≡ true → slice_get old i ≡ Some s
  pub longer : length old ≤ length new
