use Rattle.theory.proofs.trees.BegunSearches.{Begins-beginning, Begins-unique}
use Rattle.theory.proofs.begun.one_beginning.Goals as goal

pub returns : goal.returns
returns c = record { one = Begins-unique; may = Begins-beginning }
