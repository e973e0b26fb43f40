use Rattle.theory.specs.Beginnings.{begun_by}
use Rattle.cubes_tests.proofs.divided.conflicts_in.Goals as goal

pub solve-requires : goal.solve-requires
solve-requires c = (begun_by c.args.plan.search c.args.formula.now, c.requires, rw c.vars.ensures.vars at c.in_ok-cube.ensures)
