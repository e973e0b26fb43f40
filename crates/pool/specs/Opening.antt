-- How the deques of a pool are shared out among its hands.
use Rattle.std.specs.Prelude.{◌≡◌, ℕ, ◌+◌, ◌<◌, ◌≤◌, ltb, ◌==◌, true, cond, List, [], ◌∷◌, map, Some, slice_get}
use Rattle.std.specs.Global.{Vec}
use Rattle.atomic_table.specs.Seated.{TableId}
use Rattle.pool.specs.DequeNotes.{DequeNotes, thief_notes, spent}
use Rattle.pool.specs.Ends.{DequeId, DequeEnd}
use Rattle.pool.specs.Hands.{HandView}
use Rattle.pool.specs.Pools.{new_ledger}

-- the notes of the deque d's owner once the hands below h have their thieves
abbrev pub stage : ℕ → ℕ → ℕ → DequeNotes
stage vars h d = record { is_owner = true; vars = vars; made = h; roots = []; put = []; left = []; got = cond (ltb d h) ((d, []) ∷ []) [] }

-- the thief of the hand h into the deque d
abbrev pub notes_of_thief : ℕ → ℕ → ℕ → DequeNotes
notes_of_thief vars h d = cond (d == h) spent (thief_notes vars h)

-- which deques these are
abbrev pub ids : List DequeEnd → List DequeId
ids es = map (λ (e : DequeEnd). e.id) es

-- the hands below h have their thieves
abbrev pub Staged : ℕ → ℕ → List DequeEnd → Type 0
Staged vars h owners = (d : ℕ) (l : DequeEnd) → slice_get owners d ≡ Some l → l.notes ≡ stage vars h d

-- these are the thieves of the hand h
abbrev pub IsRow : ℕ → ℕ → List DequeEnd → Type 0
IsRow vars h thieves = (d : ℕ) (w : DequeEnd) → slice_get thieves d ≡ Some w → w.notes ≡ notes_of_thief vars h d

-- in the middle of a row: the deques below d have a thief for the hand h
abbrev pub Halfway : ℕ → ℕ → ℕ → List DequeEnd → Type 0
Halfway vars h d owners = (k : ℕ) (l : DequeEnd) → slice_get owners k ≡ Some l → (k < d → l.notes ≡ stage vars (h + 1) k) × (d ≤ k → l.notes ≡ stage vars h k)

-- the h-th row has the thieves of the hand h
abbrev pub AreRows : ℕ → List DequeId → List (Vec DequeEnd) → Type 0
AreRows vars deques rows = (h : ℕ) (r : Vec DequeEnd) → slice_get rows h ≡ Some r → IsRow vars h r.items × (ids r.items ≡ deques)

-- a hand that did nothing yet, before there is a root
abbrev pub rootless_hand : ℕ → ℕ → List DequeId → TableId → ℕ → HandView
rootless_hand hands vars deques table number = record {
  number = number;
  hands = hands;
  vars = vars;
  deques = deques;
  table = table;
  roots = [];
  ledger = new_ledger hands;
}

-- the first hands of the pool, before there is a root
abbrev pub AreRootless : ℕ → ℕ → List DequeId → TableId → List HandView → Type 0
AreRootless n vars deques table hands = (number : ℕ) (h : HandView) → slice_get hands number ≡ Some h → h ≡ rootless_hand n vars deques table number
