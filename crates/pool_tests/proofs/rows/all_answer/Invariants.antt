use Rattle.pool.specs.Hands.{SameHand}
use Rattle.pool_tests.proofs.rows.all_answer.Given as goal

abbrev pub invariant-calls : goal.invariant-calls
invariant-calls l = SameHand l.initial.hand l.hand
