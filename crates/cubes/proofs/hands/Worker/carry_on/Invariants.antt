use Rattle.std.proofs.Common.{◌≡◌, ◌+◌}
use Rattle.theory.specs.Beginnings.{begun_by}
use Rattle.cubes.specs.Solved.{results_by}
use Rattle.cubes.specs.Hands.{IsWorker}
use Rattle.cubes.specs.Looks.{AddsDone}
use Rattle.cubes.proofs.CarryingSteps.{IsCarrying}
use Rattle.cubes.proofs.Walks.{to_come}
use Rattle.cubes.proofs.hands.Worker.carry_on.Given as goal

-- so far no model was found, and all cubes left of this one are settled
abbrev pub invariant-cubes : goal.invariant-cubes
invariant-cubes g l = record {
  hand : l.self.hand ≡ l.initial.self.hand;
  worker : IsWorker (begun_by l.plan.search l.formula) l.plan l.self;
  carrying : IsCarrying (begun_by l.plan.search l.formula) l.plan l.fn.half l.at (results_by g.L.KeepsLines.lines l.initial.self.solved.items) (results_by g.L.KeepsLines.lines l.self.solved.items);
  done : AddsDone (results_by g.L.KeepsLines.lines l.initial.self.solved.items) (results_by g.L.KeepsLines.lines l.self.solved.items);
}

abbrev pub decreases-cubes : goal.decreases-cubes
decreases-cubes g l = to_come (l.formula.vars + 1) l.at.walk
