use Rattle.pool.proofs.WordCalls.{starts}
use Rattle.pool.proofs.seat.WordSeat.open.Goals as goal

pub of_words-requires : goal.of_words-requires
of_words-requires c = starts (Unit {0})
