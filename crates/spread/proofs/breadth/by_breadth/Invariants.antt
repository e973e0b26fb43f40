use Rattle.std.proofs.Common.{All}
use Rattle.theory.specs.Beginnings.{begun_by}
use Rattle.cubes.specs.Division.{IsSolverOf}
use Rattle.gathering.specs.Facts.{IsTrueFact}
use Rattle.spread.specs.Dividing.{IsBreadth}
use Rattle.spread.specs.Solving.{IsOfTree}
use Rattle.spread.proofs.breadth.by_breadth.Given as goal

-- the solver is the one of the formula and the plan, what is said so far is true, and what waits
-- are cubes of the tree, and those that it leaves open
abbrev pub invariant-cubes : goal.invariant-cubes
invariant-cubes g l = record {
  solver : IsSolverOf (begun_by l.fn.plan.search l.formula) l.fn.plan l.solver;
  facts : All (IsTrueFact l.formula l.fn.plan) l.facts.items;
  cubes : All (IsOfTree l.formula l.fn.plan) l.queue.items;
  waits : IsBreadth l.formula l.fn.plan l.facts.items l.queue.items l.has_model;
}
