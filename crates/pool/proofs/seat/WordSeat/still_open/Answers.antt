use Rattle.std.proofs.Common.{rules, ap, ◌∙◌}
use Rattle.pool.specs.Words.{SeatView}
use Rattle.pool.proofs.WordCalls.{says_open}
use Rattle.pool.proofs.seat.WordSeat.still_open.Goals as goal

pub load-requires : goal.load-requires
load-requires c = let h = c.requires.hand in (search rules, search rules, says_open _ _ _ h.0 h.1 (ap (λ (e : SeatView). e.notes.is_first) c.self.view_is ∙ h.3) (ap (λ (e : SeatView). e.notes.calls) c.self.view_is ∙ h.2))
