use Rattle.theory.specs.Simplifying.{unsimplified}
use Rattle.theory.proofs.simplifying.Simplifications.{simplification-begins, simplification-goes_on, simplification-all}
use Rattle.theory.proofs.simplified.simplifications_keep.Goals as goal

pub returns : goal.returns
returns c = record {
  begins = simplification-begins;
  goes_on = simplification-goes_on;
  whole = λ F cs formed h. simplification-all F (unsimplified F) cs (simplification-begins F formed) h;
}
