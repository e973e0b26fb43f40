use Rattle.cdcl.specs.Searching.{formula_of}
use Rattle.cdcl.proofs.SearchedFormulas.{formula-stays}
use Rattle.cdcl.proofs.FocusedSteps.{Reaches-exhausted}
use Rattle.cdcl.proofs.search.focused.FocusedSearch.run.Goals as goal

pub returns-in-Ended-clause-runs : goal.returns-in-Ended-clause-runs
returns-in-Ended-clause-runs g c saved h = (rw c.in-Ended.is at c.in_ok-outcome.ensures.stops saved h).0

pub returns-in_ok-split-in-Spent-clause-runs : goal.returns-in_ok-split-in-Spent-clause-runs
returns-in_ok-split-in-Spent-clause-runs g c saved h =
    Reaches-exhausted c.args.self.now.constants (formula_of c.args.self.now.kernel) c.args.budget c.in_ok-split-in-Spent.field-0 _ _ c.run_to.new.self (rw c.in-Spent.is at c.in_ok-outcome.ensures.stops saved h)
    (formula-stays c.args.self.now.kernel c.run_to.new.self.kernel c.in_ok-outcome.ensures.kept.goes_on) c.in_ok-split-in-Spent.ensures.splits c.in_ok-split-in-Spent.ensures.decided
