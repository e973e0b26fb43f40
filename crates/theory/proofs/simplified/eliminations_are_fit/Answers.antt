use Rattle.theory.proofs.simplifying.Eliminations.{formula-tidy, elimination-fit, elimination-tidy}
use Rattle.theory.proofs.simplified.eliminations_are_fit.Goals as goal

pub returns : goal.returns
returns c = record { tidying = formula-tidy; elimination = λ V x s h. (elimination-fit V x s h, elimination-tidy V x s h) }
