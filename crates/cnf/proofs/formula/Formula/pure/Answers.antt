use Rattle.std.proofs.Common.{◌≡◌, ◌∙◌, length, not}
use Rattle.std.proofs.lemmas.Result.{MatchResult-weaker}
use Rattle.theory.specs.Truth.{value}
use Rattle.theory.specs.Pure.{pure_literals}
use Rattle.theory.proofs.searching.PureVariables.{negatives}
use Rattle.cnf.proofs.PureLemmas.{negatives-pure}
use Rattle.cnf.proofs.formula.Formula.pure.Goals as goal

pub returns : goal.returns
returns c =
    let same : negatives (λ w. not (value c.deref.result.now w)) (length c.deref.result.now) ≡ pure_literals c.args.self.now =
    rw c.deref.ensures.value (negatives-pure c.args.self.now c.in_ok-marks.marks.items c.in_ok-marks.ensures.length c.in_ok-marks.ensures.marks) in
    MatchResult-weaker c.unmarked.result c.unmarked.ensures (λ v p. p ∙ same) (λ e p. tt)
