use Rattle.std.proofs.Common.{arith}
use Rattle.theory.specs.Beginnings.{begun_by}
use Rattle.cubes_tests.proofs.divided.root_of.Goals as goal

pub solve-requires : goal.solve-requires
solve-requires c = (begun_by c.args.plan.search c.args.formula.now, c.requires, rw c.root.ensures (λ k d none. absurd (omega (arith, none))))

pub returns-in_default : goal.returns-in_default
returns-in_default c = record { solver = c.in_ok-var.ensures.kept (begun_by c.args.plan.search c.args.formula.now) c.requires; root = tt }

pub returns-clause-solver : goal.returns-clause-solver
returns-clause-solver c = c.in_ok-var.ensures.kept (begun_by c.args.plan.search c.args.formula.now) c.requires

pub returns-clause-root : goal.returns-clause-root
returns-clause-root c =
    let F = begun_by c.args.plan.search c.args.formula.now in
    c.root-root.ensures F c.args.plan (c.in_ok-var.ensures.kept F c.requires) (rw (c.root.ensures, c.in-Exhausted.is) at (c.in_ok-var.ensures.runs F c.requires))
