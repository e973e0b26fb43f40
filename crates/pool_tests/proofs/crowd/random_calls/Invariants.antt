use Rattle.pool.specs.Hands.{SameHand}
use Rattle.pool_tests.proofs.crowd.random_calls.Given as goal

abbrev pub invariant-turns : goal.invariant-turns
invariant-turns l = SameHand l.initial.hand l.hand
