use Rattle.std.proofs.Common.{All}
use Rattle.theory.specs.Beginnings.{begun_by}
use Rattle.cubes.specs.Division.{IsSolverOf}
use Rattle.gathering.specs.Facts.{IsTrueFact}
use Rattle.spread.proofs.conquering.solve_all.Given as goal

-- the solver is the one of the formula and the plan, and what is said so far is true
abbrev pub invariant-cubes : goal.invariant-cubes
invariant-cubes g l = record {
  solver : IsSolverOf (begun_by l.run.plan.search l.formula) l.run.plan l.solver;
  facts : All (IsTrueFact l.formula l.run.plan) l.facts.items;
}
