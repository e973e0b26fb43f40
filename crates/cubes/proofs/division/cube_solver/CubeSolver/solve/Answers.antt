use Rattle.std.proofs.Common.{length, ap, sym}
use Rattle.theory.proofs.searching.OutcomeLemmas.{Runs-says}
use Rattle.cdcl.specs.Outcome.{outcome_of}
use Rattle.cdcl.proofs.SearcherLemmas.{formula-over}
use Rattle.cubes.proofs.DividedSearches.{ordered-runs, ordered-says}
use Rattle.cubes.proofs.division.cube_solver.CubeSolver.solve.Goals as goal

pub returns-in-Ordered-clause-runs : goal.returns-in-Ordered-clause-runs
returns-in-Ordered-clause-runs g c = rw c.in-Ordered.is (ordered-runs g.L.KeepsLines.lines c.args.plan c.args.cube.now c.in-Ordered.solver c.solve_as.result c.solve_as.ensures.runs)

pub returns-in-Ordered-clause-says : goal.returns-in-Ordered-clause-says
returns-in-Ordered-clause-says g c = rw c.in-Ordered.is (ordered-says g.L.KeepsLines.lines c.args.plan c.args.cube.now c.in-Ordered.solver c.solve_as.result c.solve_as.ensures.says)

pub returns-in_ok-outcome-in-Focused-clause-says : goal.returns-in_ok-outcome-in-Focused-clause-says
returns-in_ok-outcome-in-Focused-clause-says g c =
    rw c.in-Focused.is (λ F d over.
    rw c.in_ok-outcome-in-Focused.ensures (Runs-says F c.args.plan c.args.cube.now (outcome_of c.in_ok-found-in-Focused.found) (formula-over F c.in-Focused.search.search.kernel d.ready c.trail-trail.ensures.clauses_over) c.lits-lits.ensures.cube over
    (c.in_ok-found-in-Focused.ensures.runs F c.args.plan d (c.budget_of.ensures.same c.args.cube.now (ap length (sym c.lits-lits.ensures.lits))))))
