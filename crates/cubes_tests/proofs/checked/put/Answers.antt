use Rattle.std.proofs.lemmas.List.Elements.{All-push}
use Rattle.theory.specs.Plans.{ordered}
use Rattle.theory.specs.Pure.{searched}
use Rattle.theory.specs.Beginnings.{begun_by}
use Rattle.theory.specs.Checked.{IsCheckedOf}
use Rattle.theory.proofs.trees.CheckedTrees.{IsCheckedOutcome-said}
use Rattle.cdcl.specs.Outcome.{outcome_of}
use Rattle.cubes.specs.Solved.{LinesSolved, what_by}
use Rattle.cubes_tests.proofs.checked.put.Goals as goal

pub returns : goal.returns
returns c =
    rw c.in_ok-push.ensures.items (All-push (λ (s : LinesSolved). IsCheckedOf ordered (searched c.args.formula.now) s.cube (what_by (λ lines. lines) s.what)) c.args.results.now.items _ c.requires
    (λ cube over. rw c.ordered.ensures at (IsCheckedOutcome-said (begun_by c.ordered.result.search c.args.formula.now) c.ordered.result c.in_ok-cube.cube (outcome_of c.in_ok-outcome.outcome) c.in_ok-outcome.ensures.runs c.in_ok-outcome.ensures.says)))
