use Rattle.pool.specs.Closing.{HasNumberFrom}
use Rattle.pool.proofs.closing.place_of.Given as goal

abbrev pub invariant-places : goal.invariant-places
invariant-places l = HasNumberFrom l.hands l.place l.number
