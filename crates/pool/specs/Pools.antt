-- What contracts see of a pool: how many hands it has, which words, and the root; and which hands
-- are its own.
use Rattle.std.specs.Prelude.{◌≡◌, ℕ, ◌<◌, if◌then◌else◌, nat_eq, List, [], ◌∷◌, length, Some, slice_get, replicate}
use Rattle.atomic_table.specs.Seated.{TableId}
use Rattle.theory.specs.Ledger.{Ledger}
use Rattle.pool.specs.DequeNotes.{Cube}
use Rattle.pool.specs.Ends.{DequeId}
use Rattle.pool.specs.Hands.{HandView, SameHand}

pub record PoolView : Type 0 where
  pub hands : ℕ
  pub table : TableId
  pub root : Cube

-- the root lies in the deque of the first hand
abbrev pub roots_of : Cube → ℕ → List Cube
roots_of root number = if nat_eq number 0 then root ∷ [] else []

-- the ledger of a hand that did nothing yet, with a list for each deque
abbrev pub new_ledger : ℕ → Ledger
new_ledger hands = record { put = []; got = replicate hands []; calls = [] }

-- the hand of this number of a pool, as it was opened
abbrev pub new_hand : PoolView → ℕ → List DequeId → ℕ → HandView
new_hand pool vars deques number = record {
  number = number;
  hands = pool.hands;
  vars = vars;
  deques = deques;
  table = pool.table;
  roots = roots_of pool.root number;
  ledger = new_ledger pool.hands;
}

-- these are the hands of the pool, as it was opened, in the order of their numbers
pub record AreNew (pool : PoolView) (vars : ℕ) (hands : List HandView) : Type 0 where
  pub deques : List DequeId
  pub as_many : length hands ≡ pool.hands
  pub each : (number : ℕ) (h : HandView) → slice_get hands number ≡ Some h → h ≡ new_hand pool vars deques number

-- the hand is one of the pool with these deques
abbrev pub IsHandOf : PoolView → List DequeId → HandView → Type 0
IsHandOf pool deques h = (h.hands ≡ pool.hands) × (h.table ≡ pool.table) × (h.deques ≡ deques) × (h.roots ≡ roots_of pool.root h.number)

-- these are all hands of the pool, each once, in any order
pub record AreAllOf (pool : PoolView) (hands : List HandView) : Type 0 where
  pub deques : List DequeId
  pub of_pool : (place : ℕ) (h : HandView) → slice_get hands place ≡ Some h → IsHandOf pool deques h
  pub as_many : length hands ≡ pool.hands
  pub each_number : (number : ℕ) → number < pool.hands → (place : ℕ) × (h : HandView) × (slice_get hands place ≡ Some h) × (h.number ≡ number)

-- the ledgers of these hands, by the number of the hand
pub record AreLedgersOf (hands : List HandView) (ledgers : List Ledger) : Type 0 where
  pub as_many : length ledgers ≡ length hands
  pub each : (place : ℕ) (h : HandView) → slice_get hands place ≡ Some h → slice_get ledgers h.number ≡ Some h.ledger

-- these are still the same hands, place by place
abbrev pub AreSameHands : List HandView → List HandView → Type 0
AreSameHands old new = (length new ≡ length old) × ((place : ℕ) (a b : HandView) → slice_get old place ≡ Some a → slice_get new place ≡ Some b → SameHand a b)
