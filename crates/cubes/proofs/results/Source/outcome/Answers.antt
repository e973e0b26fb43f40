use Rattle.theory.proofs.trees.CheckedTrees.{IsCheckedOutcome-said}
use Rattle.theory.specs.Beginnings.{begun_by}
use Rattle.cubes.proofs.results.Source.outcome.Goals as goal

pub returns-in_ok-outcome-in-None-clause-checked : goal.returns-in_ok-outcome-in-None-clause-checked
returns-in_ok-outcome-in-None-clause-checked g c = λ cube over.
    (IsCheckedOutcome-said (begun_by c.args.plan.search c.args.formula.now) c.args.plan c.args.cube.now _ c.in_ok-outcome-in-None.ensures.runs c.in_ok-outcome-in-None.ensures.says)
