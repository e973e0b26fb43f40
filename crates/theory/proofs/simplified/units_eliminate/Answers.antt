use Rattle.theory.proofs.simplifying.Resolvents.{resolved-left, resolved-right}
use Rattle.theory.proofs.simplified.units_eliminate.Goals as goal

pub returns : goal.returns
returns c = record { positive = resolved-right; negative = resolved-left }
