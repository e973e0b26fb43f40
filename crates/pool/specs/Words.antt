-- The three shared words of a pool, and what each seat at them knows.
use Rattle.std.specs.Prelude.{◌≡◌, ℕ, ◌^◌, ◌<◌, ◌≤◌, Bool, true, false, cond, ◌==◌, Option, Some, None, List, [], ◌∷◌, ◌++◌, All}
use mathlib.Core.Option.{some}
use lib.ListN.{get_elem?}
use Rattle.atomic_table.specs.Table.{State, Me}
use Rattle.atomic_table.specs.Seated.{TableId}
use Rattle.theory.specs.Ledger.{Call, offer, look, more, less, still_open, halt, halted}
use Rattle.theory.specs.Order.{Words, first_words, Replays, words_after, entries_of}
use Rattle.pool.specs.Tally.{Tally}
use Rattle.pool.specs.SeatNotes.{SeatNotes}

-- the answer is a place, and at most this one
abbrev pub AtMost : Option ℕ → ℕ → Type 0
AtMost None place = ⊥
AtMost (Some least) place = least ≤ place

-- the answer of a look is at most the place that this earlier call of its hand offered or saw
abbrev pub IsBoundBy : Option ℕ → Call → Type 0
IsBoundBy answer (offer place) = AtMost answer place
IsBoundBy answer (look (Some place)) = AtMost answer place
IsBoundBy answer (look None) = Unit {0}
IsBoundBy answer more = Unit {0}
IsBoundBy answer less = Unit {0}
IsBoundBy answer (still_open n) = Unit {0}
IsBoundBy answer halt = Unit {0}
IsBoundBy answer (halted b) = Unit {0}

-- a hand that halted, or saw that one had, sees that one has
abbrev pub StaysHalted : Bool → Call → Type 0
StaysHalted answer (offer place) = Unit {0}
StaysHalted answer (look seen) = Unit {0}
StaysHalted answer more = Unit {0}
StaysHalted answer less = Unit {0}
StaysHalted answer (still_open n) = Unit {0}
StaysHalted answer halt = answer ≡ true
StaysHalted answer (halted true) = answer ≡ true
StaysHalted answer (halted false) = Unit {0}

-- what an answer owes to the earlier calls of its hand
abbrev pub Owes : List Call → Call → Type 0
Owes calls (offer place) = Unit {0}
Owes calls (look seen) = All (IsBoundBy seen) calls
Owes calls more = Unit {0}
Owes calls less = Unit {0}
Owes calls (still_open n) = Unit {0}
Owes calls halt = Unit {0}
Owes calls (halted b) = All (StaysHalted b) calls

-- as words: all bits one say that no place was offered
abbrev pub code : Option ℕ → ℕ
code None = 18446744073709551615
code (Some p) = p

abbrev pub decode : ℕ → Option ℕ
decode n = cond (n == 18446744073709551615) None (Some n)

-- and 1 that a hand halted
abbrev pub bit : Bool → ℕ
bit b = cond b 1 0

-- the words of the table
abbrev pub coded : Words → List ℕ
coded s = code s.least ∷ s.undone ∷ bit s.has_halted ∷ []

-- a place is far below all bits one
abbrev pub Sane : Option ℕ → Type 0
Sane None = Unit {0}
Sane (Some p) = p < 2 ^ 32

-- one call more by the hand whose notes come first
abbrev pub with_call : Call → List (ℕ × List Call) → List (ℕ × List Call)
with_call c [] = []
with_call c (n ∷ ns) = (n.0, n.1 ++ c ∷ []) ∷ ns

abbrev pub called : SeatNotes → Call → SeatNotes
called v c = record v { calls = with_call c v.calls }

-- the notes of another seat are taken in
abbrev pub both_calls : SeatNotes → SeatNotes → SeatNotes
both_calls v w = record v { calls = v.calls ++ w.calls }

abbrev pub calls_of : SeatNotes → List (ℕ × List Call)
calls_of v = v.calls

-- where the end was read, it is this
abbrev pub Endings : Option Words → Words → Type 0
Endings None t = Unit {0}
Endings (Some u) t = u ≡ t

-- the first seat knows how many hands there are, and at the end how the order ends; the others call
-- only before that
abbrev pub Speaks : ℕ → Option Words → ℕ → SeatNotes → Type 0
Speaks made last port v = (v.is_first ≡ true → (port ≡ 0) × (v.made ≡ made) × (v.last ≡ last)) × (v.is_first ≡ false → (n : ℕ × List Call) (ns : List (ℕ × List Call)) → v.calls ≡ n ∷ ns → last ≡ None)

-- The rule: one order of all calls, of which all seats' notes are, replays and ends with the words.
abbrev pub Ordered : {S : Type 0} → State S SeatNotes → Type 0
Ordered s = (made : ℕ) × (last : Option Words) × (order : List (ℕ × Call)) × Replays first_words order × (s.words ≡ coded (words_after first_words order)) × Sane (words_after first_words order).least × Tally calls_of made order s.views
    × Endings last (words_after first_words order) × ((port : ℕ) (v : SeatNotes) → get_elem? s.views port ≡ some v → Speaks made last port v)

-- the seat is a hand's
abbrev pub IsHandSeat : SeatNotes → Type 0
IsHandSeat v = (n : ℕ × List Call) × (ns : List (ℕ × List Call)) × (v.calls ≡ n ∷ ns) × (v.is_first ≡ false)

-- the calls of the first hand of the notes
abbrev pub own_calls : List (ℕ × List Call) → List Call
own_calls [] = []
own_calls (n ∷ ns) = n.1

-- a step that is the call c, and what its answer owes
abbrev pub MakesCall : {S : Type 0} → Call → Me S SeatNotes → Me S SeatNotes → Type 0
MakesCall c m n = (n ≡ (called m.0 c, m.1)) × Owes (own_calls m.0.calls) c

-- the calls of all hands are here
abbrev pub AllHere : SeatNotes → Type 0
AllHere v = (k : ℕ) → k < v.made → (i : ℕ) × (xs : List Call) × (get_elem? v.calls i ≡ some (k, xs))

-- an order of the calls in these notes replays, and ends so
abbrev pub Closes : ℕ → List (ℕ × List Call) → Words → Type 0
Closes made calls t = (order : List (ℕ × Call)) × Replays first_words order × ((k : ℕ) → made ≤ k → entries_of k order ≡ []) × ((i : ℕ) (n : ℕ × List Call) → get_elem? calls i ≡ some n → entries_of n.0 order ≡ n.1) × (words_after first_words order ≡ t)

-- the first seat reads the least place, and how the order ends
abbrev pub Seals : {S : Type 0} → Me S SeatNotes → ℕ → Me S SeatNotes → Type 0
Seals m found n = (t : Words) × (n ≡ (record m.0 { last = Some t }, m.1)) × (decode found ≡ t.least) × Closes m.0.made m.0.calls t

-- and then the number of cubes not done
abbrev pub ReadsUndone : {S : Type 0} → Me S SeatNotes → ℕ → Me S SeatNotes → Type 0
ReadsUndone m found n = (n ≡ m) × ((t : Words) → m.0.last ≡ Some t → found ≡ t.undone)

-- what contracts see of a seat at the words: which table it is, and the notes
pub record SeatView : Type 0 where
  pub table : TableId
  pub notes : SeatNotes
