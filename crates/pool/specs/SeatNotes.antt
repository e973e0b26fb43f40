-- What a seat at the three shared words knows of the calls on them.
use Rattle.std.specs.Prelude.{ℕ, Bool, true, false, Option, None, List, [], ◌∷◌}
use Rattle.theory.specs.Ledger.{Call}
use Rattle.theory.specs.Order.{Words}

-- What a seat knows. One seat is the first, and counts the hands that have a seat; once all calls
-- are in its notes it reads with what they end. The others are the hands', each with its hand's
-- number and its calls.
pub record SeatNotes : Type 0 where
  pub is_first : Bool
  pub made : ℕ
  pub last : Option Words
  pub calls : List (ℕ × List Call)

-- the first seat's view, and a hand's at the start
abbrev pub first_notes : ℕ → SeatNotes
first_notes made = record { is_first = true; made = made; last = None; calls = [] }

abbrev pub hand_notes : ℕ → SeatNotes
hand_notes k = record { is_first = false; made = 0; last = None; calls = (k, []) ∷ [] }

abbrev pub spent_notes : SeatNotes
spent_notes = record { is_first = false; made = 0; last = None; calls = [] }
