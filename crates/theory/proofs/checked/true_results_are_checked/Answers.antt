use Rattle.theory.proofs.trees.CheckedTrees.{IsCheckedOutcome-Runs, IsCheckedOf-IsTrueOf, IsCheckedTree-IsTree, IsCheckedFirstLeaf-IsFirstLeaf}
use Rattle.theory.proofs.trees.ResultLemmas.{IsCheckedResult-IsResult}
use Rattle.theory.proofs.checked.true_results_are_checked.Goals as goal

pub returns : goal.returns
returns c = record {
  outcome = IsCheckedOutcome-Runs;
  what = IsCheckedOf-IsTrueOf;
  tree = IsCheckedTree-IsTree;
  leaf = IsCheckedFirstLeaf-IsFirstLeaf;
  result = IsCheckedResult-IsResult;
}
