use Rattle.std.proofs.Common.{rules, ap, ◌∙◌, sym, subst}
use Rattle.atomic_table.specs.Table.{Me}
use Rattle.pool.specs.SeatNotes.{SeatNotes}
use Rattle.pool.specs.Words.{SeatView, AllHere}
use Rattle.pool.proofs.WordCalls.{seals, reads}
use Rattle.pool.proofs.seat.WordSeat.ends.Goals as goal

pub load-found-requires : goal.load-found-requires
load-found-requires c = (search rules, search rules, seals _ _ _ (ap (λ (e : SeatView). e.notes.is_first) c.self.view_is ∙ c.requires.first) (subst (λ (e : SeatView). AllHere e.notes) (sym c.self.view_is) c.requires.whole))

pub load-undone-requires : goal.load-undone-requires
load-undone-requires c = let e = c.load-found.ensures.2 in (search rules, search rules, reads _ _ _ (ap (λ (m : Me (Unit {0}) SeatNotes). m.0.is_first) e.1 ∙ ap (λ (e : SeatView). e.notes.is_first) c.self.view_is ∙ c.requires.first))
