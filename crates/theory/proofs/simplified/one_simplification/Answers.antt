use Rattle.theory.proofs.simplifying.Trials.{IsSimplification-unique, IsSimplification-fit}
use Rattle.theory.proofs.simplified.one_simplification.Goals as goal

pub returns : goal.returns
returns c = record { one = IsSimplification-unique; fit = IsSimplification-fit }
