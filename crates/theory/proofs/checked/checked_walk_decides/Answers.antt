use Rattle.theory.proofs.trees.CheckedResults.{IsCheckedResult-IsAssembled, IsResult-IsAssembled}
use Rattle.theory.proofs.checked.checked_walk_decides.Goals as goal

pub returns : goal.returns
returns c = record { checked = IsCheckedResult-IsAssembled; result = IsResult-IsAssembled }
