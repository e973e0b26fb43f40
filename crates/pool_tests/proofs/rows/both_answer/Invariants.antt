use Rattle.pool.specs.Hands.{SameHand}
use Rattle.pool_tests.proofs.rows.both_answer.Given as goal

abbrev pub invariant-rows : goal.invariant-rows
invariant-rows l = SameHand l.initial.one l.one × SameHand l.initial.two l.two
