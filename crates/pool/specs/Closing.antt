-- How a pool is closed: each deque takes in the notes of all its thieves, and then what is left in
-- it is taken out.
use Rattle.std.specs.Prelude.{◌≡◌, ℕ, zero, suc, ◌<◌, ◌≤◌, List, [], ◌∷◌, ◌++◌, map, length, flat_map, Some, slice_get}
use Rattle.std.specs.Global.{Vec}
use Rattle.atomic_table.specs.Seated.{TableId}
use Rattle.theory.specs.Ledger.{Call}
use Rattle.pool.specs.DequeNotes.{DequeNotes, Cube, merged}
use Rattle.pool.specs.Deque.{Emptied}
use Rattle.pool.specs.Ends.{DequeEnd}
use Rattle.pool.specs.Words.{SeatView}
use Rattle.pool.specs.Hands.{HandView, hand_view, IsHand}

-- a hand of this number is among these, at this place or behind it
abbrev pub HasNumberFrom : List HandView → ℕ → ℕ → Type 0
HasNumberFrom hands place number = (i : ℕ) × (h : HandView) × (place ≤ i) × (slice_get hands i ≡ Some h) × (h.number ≡ number)

-- the hand is among these
abbrev pub IsAmong : List HandView → HandView → Type 0
IsAmong hands h = (i : ℕ) × (slice_get hands i ≡ Some h)

-- each of these is one of the hands, at the place of its number
abbrev pub AreAtNumbers : List HandView → List HandView → Type 0
AreAtNumbers hands sorted = (number : ℕ) (h : HandView) → slice_get sorted number ≡ Some h → (h.number ≡ number) × IsAmong hands h

-- each deque has taken in the notes of the thief to it
abbrev pub Merged : List DequeEnd → List DequeEnd → List DequeEnd → Type 0
Merged old thieves new = (length new ≡ length old) × ((d : ℕ) (l w : DequeEnd) → slice_get old d ≡ Some l → slice_get thieves d ≡ Some w → slice_get new d ≡ Some (record l { notes = merged l.notes w.notes }))

-- the deques below d have done so
abbrev pub Merging : List DequeEnd → List DequeEnd → ℕ → List DequeEnd → Type 0
Merging old thieves d new = (length new ≡ length old) × ((k : ℕ) (l w : DequeEnd) → k < d → slice_get old k ≡ Some l → slice_get thieves k ≡ Some w → slice_get new k ≡ Some (record l { notes = merged l.notes w.notes }))
    × ((k : ℕ) → d ≤ k → slice_get new k ≡ slice_get old k)

-- the notes of a deque once this was left in it
abbrev pub drained : DequeNotes → List Cube → DequeNotes
drained v cs = record v { left = v.left ++ cs }

-- the hands stand in the order of their numbers, and are of the pool with this table
abbrev pub AreNumbered : TableId → List HandView → Type 0
AreNumbered table hands = (h : ℕ) (v : HandView) → slice_get hands h ≡ Some v → (v.number ≡ h) × (v.hands ≡ length hands) × (v.table ≡ table)

-- the calls of all hands
abbrev pub calls_of : List HandView → List (ℕ × List Call)
calls_of hands = map (λ (v : HandView). (v.number, v.ledger.calls)) hands

-- the parts of each hand
abbrev pub AreParts : List HandView → List DequeEnd → List (Vec DequeEnd) → Type 0
AreParts hands owners rows = (length owners ≡ length hands) × (length rows ≡ length hands)
    × ((h : ℕ) (v : HandView) → slice_get hands h ≡ Some v → (owner : DequeEnd) × (thieves : Vec DequeEnd) × (words : SeatView) × (slice_get owners h ≡ Some owner) × (slice_get rows h ≡ Some thieves)
    × IsHand v.number v.vars owner thieves.items words × (hand_view v.number v.vars owner thieves.items words ≡ v))

-- what these thieves got, from the deque d
abbrev pub got_at : List DequeEnd → ℕ → List (ℕ × List Cube)
got_at [] d = []
got_at (w ∷ ws) zero = w.notes.got
got_at (w ∷ ws) (suc d) = got_at ws d

abbrev pub gots : List (Vec DequeEnd) → ℕ → List (ℕ × List Cube)
gots [] d = []
gots (r ∷ rs) d = got_at r.items d ++ gots rs d

-- each deque has taken in the notes of all thieves to it
abbrev pub Gathered : List DequeEnd → List (Vec DequeEnd) → List DequeEnd → Type 0
Gathered old rows new = (length new ≡ length old)
    × ((d : ℕ) (l : DequeEnd) → slice_get old d ≡ Some l → slice_get new d ≡ Some (record l { notes = record l.notes { got = l.notes.got ++ gots rows d } }))

-- the first k deques are empty, and this was left in them
abbrev pub Drained : List DequeEnd → ℕ → List Cube → Type 0
Drained owners k left = (lefts : List (List Cube)) × (flat_map (λ cubes. cubes) lefts ≡ left) × (length lefts ≡ k)
    × ((d : ℕ) (l : DequeEnd) (cs : List Cube) → slice_get owners d ≡ Some l → slice_get lefts d ≡ Some cs → Emptied (drained l.notes cs))
