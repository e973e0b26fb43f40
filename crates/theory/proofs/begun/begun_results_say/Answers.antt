use Rattle.theory.proofs.trees.BegunSearches.{IsFormula-begun, ResultSays-back, IsCheckedResult-back, IsResult-back}
use Rattle.theory.proofs.begun.begun_results_say.Goals as goal

pub returns : goal.returns
returns c = record { back = ResultSays-back; checked = IsCheckedResult-back; result = IsResult-back; formula = IsFormula-begun }
