use Rattle.std.proofs.Common.{rules}
use Rattle.theory.specs.Beginnings.{begun_by}
use Rattle.cubes.proofs.results.LazySolver.solve.Goals as goal

pub solve-requires : goal.solve-requires
solve-requires g c = (begun_by c.args.plan.search c.args.formula.now, search rules, c.requires.over)

pub returns-clause-says : goal.returns-clause-says
returns-clause-says g c = c.in_ok-outcome.ensures.says (begun_by c.args.plan.search c.args.formula.now) (search rules) c.requires.over

pub returns-clause-kept : goal.returns-clause-kept
returns-clause-kept g c = (c.in_ok-outcome.ensures.kept (begun_by c.args.plan.search c.args.formula.now) (search rules), c.requires.solver.1)
