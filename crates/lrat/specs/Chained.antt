-- Chains of places, by their entries.
use Rattle.std.specs.Prelude.{◌≡◌, ◌≢◌, ◌≤◌, ℕ, zero, suc, true, List, length, Some, slice_get, slice_index_or}
use Rattle.lrat.specs.declared.chains.Chains.{Chains}
use Rattle.lrat.specs.declared.chains.Entry.{Entry}
use Rattle.lrat.specs.Slots.{Slot}

abbrev pub entry_at : List Entry → ℕ → Entry
entry_at es j = slice_index_or es j (record { place = 0; next = 0 })

-- a walk over fewer entries than the first number, from the one that a link leads to, meets the
-- place i
abbrev pub Meets : ℕ → List Entry → ℕ → ℕ → Type 0
Meets zero es link i = ⊥
Meets (suc n) es zero i = ⊥
Meets (suc n) es (suc j) i = (entry_at es j).place ≢ i → Meets n es (entry_at es j).next i

-- the chain from a link on has the place i
abbrev pub IsOn : List Entry → ℕ → ℕ → Type 0
IsOn es link i = (n : ℕ) × Meets n es link i

abbrev pub head_at : List ℕ → ℕ → ℕ
head_at heads n = slice_index_or heads n 0

-- the chain of a code has the place i
abbrev pub IsIn : Chains → ℕ → ℕ → Type 0
IsIn c n i = IsOn c.entries.items (head_at c.heads.items n) i

-- links lead to entries, and within a chain to earlier ones
pub record AreChains (c : Chains) : Type 0 where
  pub down : (j : ℕ) → (entry_at c.entries.items j).next ≤ j
  pub heads : (n : ℕ) → head_at c.heads.items n ≤ length c.entries.items

-- the clause at a place, if there is a slot, is there
abbrev pub IsThereAt : List Slot → ℕ → Type 0
IsThereAt slots i = (s : Slot) → slice_get slots i ≡ Some s → s.is_there ≡ true

-- the entry that a link leads to, if it leads to one, has the place of a clause that is there
abbrev pub LeadsThere : List Slot → List Entry → ℕ → Type 0
LeadsThere slots es zero = Unit {0}
LeadsThere slots es (suc j) = IsThereAt slots (entry_at es j).place

-- each chain has each place that it had, but for those of clauses that aren't there
abbrev pub KeepsThere : List Slot → Chains → Chains → Type 0
KeepsThere slots old new = (n i : ℕ) (s : Slot) → slice_get slots i ≡ Some s → s.is_there ≡ true → IsIn old n i → IsIn new n i
