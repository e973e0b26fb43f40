use Rattle.std.proofs.Common.{rules, ap, ◌∙◌}
use Rattle.pool.specs.Words.{SeatView}
use Rattle.pool.proofs.WordCalls.{joins}
use Rattle.pool.proofs.seat.WordSeat.join.Goals as goal

pub join_seat-requires : goal.join_seat-requires
join_seat-requires c = (search rules, search rules, search rules, search rules, joins (Unit {0}) _ _ _ _ (ap (λ (e : SeatView). e.notes.is_first) c.self.view_is ∙ c.requires.first))
