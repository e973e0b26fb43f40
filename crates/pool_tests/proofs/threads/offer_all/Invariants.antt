use Rattle.pool.specs.Hands.{SameHand}
use Rattle.pool_tests.proofs.threads.offer_all.Given as goal

abbrev pub invariant-places : goal.invariant-places
invariant-places l = SameHand l.initial.hand l.hand
