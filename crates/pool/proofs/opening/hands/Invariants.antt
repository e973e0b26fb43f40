use Rattle.std.proofs.Common.{◌≡◌, length, drop}
use Rattle.pool.specs.SeatNotes.{first_notes}
use Rattle.pool.specs.Opening.{AreRootless, ids}
use Rattle.pool.proofs.opening.hands.Given as goal

abbrev pub invariant-hands : goal.invariant-hands
invariant-hands l = (l.owners.items ≡ drop l.h l.initial.owners.items) × (l.rows.items ≡ drop l.h l.initial.rows.items) × (l.words ≡ record { table = l.initial.words.table; notes = first_notes l.h })
    × AreRootless (length l.initial.owners.items) l.vars (ids l.initial.owners.items) l.initial.words.table l.hands.items × (length l.hands.items ≡ l.h)
