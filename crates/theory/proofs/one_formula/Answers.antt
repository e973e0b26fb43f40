use Rattle.theory.proofs.trees.OneText.{Reads-one_formula}
use Rattle.theory.proofs.one_formula.Goals as goal

pub returns : goal.returns
returns c = Reads-one_formula
