use Rattle.theory.proofs.trees.OneText.{IsWritten-one}
use Rattle.theory.proofs.one_text.Goals as goal

pub returns : goal.returns
returns c = IsWritten-one
