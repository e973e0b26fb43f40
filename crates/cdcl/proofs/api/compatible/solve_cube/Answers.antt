use Rattle.cdcl.specs.Outcome.{outcome_of}
use Rattle.cdcl.proofs.SearcherLemmas.{undivided-runs}
use Rattle.cdcl.proofs.api.compatible.solve_cube.Goals as goal

pub returns-clause-runs : goal.returns-clause-runs
returns-clause-runs c =
    undivided-runs c.args.formula.now c.args.budget c.args.cube.now c.ordered.result c.in_ok-solver.solver (outcome_of c.in_ok-outcome.outcome) c.ordered.ensures c.in_ok-solver.ensures c.in_ok-outcome.ensures.runs
