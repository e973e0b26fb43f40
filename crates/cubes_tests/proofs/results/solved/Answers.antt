use Rattle.std.proofs.lemmas.Result.{IfOk-weaker}
use Rattle.theory.specs.Beginnings.{begun_by}
use Rattle.cubes_tests.proofs.results.solved.Goals as goal

pub returns-clause-says : goal.returns-clause-says
returns-clause-says c = IfOk-weaker c.solve.result _ _ (λ o says. says (begun_by c.args.plan.search c.args.formula.now) c.in_ok-solver.ensures c.requires) c.solve.ensures.says
