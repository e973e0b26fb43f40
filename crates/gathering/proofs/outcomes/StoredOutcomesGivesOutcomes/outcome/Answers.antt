use Rattle.theory.specs.Beginnings.{begun_by}
use Rattle.theory.proofs.trees.CheckedTrees.{IsCheckedOutcome-said}
use Rattle.gathering.proofs.outcomes.StoredOutcomesGivesOutcomes.outcome.Goals as goal

pub returns-clause-checked : goal.returns-clause-checked
returns-clause-checked g c = λ cube over.
    IsCheckedOutcome-said (begun_by c.args.plan.search c.args.formula.now) c.args.plan c.args.cube.now _ c.in_ok-outcome-2.ensures.runs c.in_ok-outcome-2.ensures.says
