use Rattle.std.proofs.Common.{◌≡◌, ◌∙◌, ◌+◌, ℕ, Bool, true, false, not, ap, sym}
use Rattle.theory.specs.Truth.{value}
use Rattle.cnf.proofs.PureLemmas.{negatives-taken, negatives-left, value-place}
use Rattle.cnf.proofs.pure.unmarked.Goals as goal
use Rattle.cnf.proofs.pure.unmarked.Goals.{then-not-marks-index+in_ok-push, else-not-marks-index}

pub loop-index-preserved : goal.loop-index-preserved
loop-index-preserved c =
    let p : ℕ → Bool = λ w. not (value c.args.marks.now w) in
    let i = c.loop-index.index in
    elim c.if-not-marks-index.branch [
      | then-not-marks-index+in_ok-push w ↦
          let h : p (i + 1) ≡ true = ap not (value-place c.args.marks.now i ∙ w.if-not-marks-index.true) in
          rw w.literals-is (w.in_ok-push.ensures.items ∙ rw (c.loop-index.invariant, w.of.ensures) (sym (negatives-taken p i h)))
      | else-not-marks-index w ↦
          let h : p (i + 1) ≡ false = ap not (value-place c.args.marks.now i ∙ w.if-not-marks-index.false) in
          rw w.literals-is (c.loop-index.invariant ∙ sym (negatives-left p i h))
    ]
