use Rattle.std.proofs.Common.{rules, ap, ◌∙◌}
use Rattle.pool.specs.Words.{SeatView}
use Rattle.pool.proofs.WordCalls.{seats}
use Rattle.pool.proofs.seat.WordSeat.next.Goals as goal

pub split_seat-seat-requires : goal.split_seat-seat-requires
split_seat-seat-requires c = (search rules, search rules, seats (Unit {0}) _ _ (ap (λ (e : SeatView). e.notes.is_first) c.self.view_is ∙ c.requires.first) (ap (λ (e : SeatView). e.notes.last) c.self.view_is ∙ c.requires.before))
