use Rattle.theory.proofs.trees.ResultLemmas.{IsCheckedResult-says}
use Rattle.theory.proofs.trees.CheckedResults.{IsCheckedResult-one, IsCheckedResult-same}
use Rattle.theory.proofs.checked.checked_result_is_right.Goals as goal

pub returns : goal.returns
returns c = record { says = IsCheckedResult-says; one_answer = IsCheckedResult-one; one_verdict = IsCheckedResult-same }
