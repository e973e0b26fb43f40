use Rattle.theory.proofs.trees.CheckedResults.{IsCheckedOutcome-says}
use Rattle.theory.proofs.checked.checked_outcomes_say.Goals as goal

pub returns : goal.returns
returns c = IsCheckedOutcome-says
