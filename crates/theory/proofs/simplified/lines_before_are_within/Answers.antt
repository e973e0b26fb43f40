use Rattle.theory.specs.Simplifying.{unsimplified}
use Rattle.theory.proofs.simplifying.WithinLimits.{lines_before-within, last-bounded}
use Rattle.theory.proofs.simplified.lines_before_are_within.Goals as goal

pub returns : goal.returns
returns c = record { steps = lines_before-within; last = λ F cs. last-bounded (unsimplified F) cs }
