use Rattle.pool.specs.Hands.{SameHand}
use Rattle.cubes.specs.Solved.{results_by}
use Rattle.theory.specs.Work.{IsUnderway}
use Rattle.theory.specs.Beginnings.{begun_by}
use Rattle.cubes.specs.Hands.{IsWorker, GoesOn}
use Rattle.cubes.specs.Looks.{TakeTurns}
use Rattle.cubes.proofs.hands.work_in.Given as goal

-- between two cubes
abbrev pub invariant-turns : goal.invariant-turns
invariant-turns g l = record {
  same : SameHand l.initial.worker.hand l.worker.hand;
  worker : IsWorker (begun_by l.plan.search l.formula) l.plan l.worker;
  underway : IsUnderway (begun_by l.plan.search l.formula) l.plan l.initial.worker.hand.ledger l.worker.hand.ledger (results_by g.L.KeepsLines.lines l.worker.solved.items);
  onward : GoesOn l.initial.worker.hand.ledger l.worker.hand.ledger;
  looks : TakeTurns l.initial.worker.hand.ledger l.worker.hand.ledger (results_by g.L.KeepsLines.lines l.worker.solved.items);
}
