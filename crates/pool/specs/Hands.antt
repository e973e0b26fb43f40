-- What contracts see of a hand: which hand of which pool it is, and its ledger.
use Rattle.std.specs.Prelude.{◌≡◌, ◌≢◌, ℕ, ◌<◌, ◌≤◌, false, List, [], ◌∷◌, ◌++◌, map, length, Option, Some, None, slice_get, slice_set}
use Rattle.atomic_table.specs.Seated.{TableId}
use Rattle.theory.specs.Ledger.{Ledger, got_from, joined}
use Rattle.theory.specs.Order.{entries_of}
use Rattle.pool.specs.DequeNotes.{Cube}
use Rattle.pool.specs.Ends.{DequeId, DequeEnd}
use Rattle.pool.specs.Words.{SeatView, own_calls}

pub record HandView : Type 0 where
  pub number : ℕ
  -- of its pool: how many hands, over how many variables, which deques, and which words
  pub hands : ℕ
  pub vars : ℕ
  pub deques : List DequeId
  pub table : TableId
  -- the root, where it was put into this hand's deque
  pub roots : List Cube
  pub ledger : Ledger

-- the hand with these entries more in its ledger
abbrev pub adds : HandView → Ledger → HandView
adds h entries = record h { ledger = joined h.ledger entries }

-- it is still the same hand
abbrev pub SameHand : HandView → HandView → Type 0
SameHand a b = (b.number ≡ a.number) × (b.hands ≡ a.hands) × (b.vars ≡ a.vars) × (b.deques ≡ a.deques) × (b.table ≡ a.table) × (b.roots ≡ a.roots)

-- all that was put into the hand's own deque
abbrev pub put_by : HandView → List Cube
put_by h = h.roots ++ h.ledger.put

-- at a moment all that had been put into the hand's deque had been taken from it, in some order
-- that keeps what this hand took itself
pub record IsAllTaken (h : HandView) : Type 0 where
  pub order : List (ℕ × Cube)
  pub is_put : map (λ entry. entry.1) order ≡ put_by h
  pub of_own : entries_of h.number order ≡ got_from h.number h.ledger
  pub no_other : (hand : ℕ) → h.hands ≤ hand → entries_of hand order ≡ []

-- at a moment the cube was the front of the hand's deque
pub record IsFront (h : HandView) (Q : Cube) : Type 0 where
  pub order : List (ℕ × Cube)
  pub rest : List Cube
  pub is_put : map (λ entry. entry.1) order ++ (Q ∷ rest) ≡ put_by h
  pub of_own : entries_of h.number order ≡ got_from h.number h.ledger
  pub no_other : (hand : ℕ) → h.hands ≤ hand → entries_of hand order ≡ []

-- What a hand knows that found the deque d empty: what it took from d itself may be, in some order
-- with what others took, all that was put there. Neither what was put nor what others took is known
-- here, so this doesn't show that the hand looked (docs/DECISIONS.md, 53).
pub record IsAllStolen (h : HandView) (d : ℕ) : Type 0 where
  pub put : List Cube
  pub order : List (ℕ × Cube)
  pub is_put : map (λ entry. entry.1) order ≡ put
  pub of_own : entries_of h.number order ≡ got_from d h.ledger

-- what a take answers where there is one hand alone: the front of what it put and hasn't taken yet,
-- or none where there is nothing
abbrev pub IsNextOf : HandView → Option Cube → Type 0
IsNextOf h None = got_from h.number h.ledger ≡ put_by h
IsNextOf h (Some Q) = (rest : List Cube) × (got_from h.number h.ledger ++ (Q ∷ rest) ≡ put_by h)

-- what the first hand of these notes got
abbrev pub first_got : List (ℕ × List Cube) → List Cube
first_got [] = []
first_got (n ∷ notes) = n.1

abbrev pub got_at_end : DequeEnd → List Cube
got_at_end e = first_got e.notes.got

-- a hand from its parts
abbrev pub hand_view : ℕ → ℕ → DequeEnd → List DequeEnd → SeatView → HandView
hand_view number vars owner thieves words = record {
  number = number;
  hands = length thieves;
  vars = vars;
  deques = map (λ (t : DequeEnd). t.id) thieves;
  table = words.table;
  roots = owner.notes.roots;
  ledger = record {
    put = owner.notes.put;
    got = slice_set (map got_at_end thieves) number (got_at_end owner);
    calls = own_calls words.notes.calls;
  };
}

-- the notes at one end are of this hand alone
abbrev pub IsOf : ℕ → ℕ → DequeEnd → Type 0
IsOf number vars e = (e.notes.vars ≡ vars) × (e.notes.left ≡ []) × (e.notes.got ≡ (number, got_at_end e) ∷ [])

-- The parts are one hand's: the owner's end of its own deque, a thief's end of each other's, and a
-- seat. At its own number stands a thief that never steals, so that a thief's place is its deque's
-- number.
abbrev pub IsHand : ℕ → ℕ → DequeEnd → List DequeEnd → SeatView → Type 0
IsHand number vars owner thieves words = (number < length thieves) × IsOf number vars owner × (owner.notes.made ≡ length thieves)
    × ((t : DequeEnd) → slice_get thieves number ≡ Some t → (t.id ≡ owner.id) × (t.notes.got ≡ []))
    × ((d : ℕ) (t : DequeEnd) → slice_get thieves d ≡ Some t → d ≢ number → IsOf number vars t)
    × (words.notes.is_first ≡ false) × (words.notes.calls ≡ (number, own_calls words.notes.calls) ∷ [])
