use Rattle.std.proofs.Common.{◌≡◌, ◌∙◌, ◌∷◌, [], ◌+◌, ◌-◌, ap, sym, arith, get_or, slice_set}
use Rattle.theory.specs.Forgetting.{Mark, fresh_mark, with_used}
use Rattle.cdcl.proofs.UsedMarks.{with_used-none, with_used-one}
use Rattle.cdcl.proofs.search.line_marks.mark_used.Goals as goal
use Rattle.cdcl.proofs.search.line_marks.mark_used.Goals.{else-number-others-via-then-number-others+else-number-others-2, else-number-others-via-else-number-others}

pub returns-then-number-others-2 : goal.returns-then-number-others-2
returns-then-number-others-2 c =
    let marks = c.args.marks.now in
    let from = c.args.others + 1 in
    let at = c.args.number - c.args.others - 1 in
    let low = c.if-number-others.true in
    let back : from + at ≡ c.args.number = omega (arith, low) in
    let glue : c.mark.inside.glue ≡ (get_or marks at c.index-marks-at.result).glue = ap (λ (m : Mark). m.glue) (c.mark.view_is ∙ c.index-marks-at.is) in
    ap (λ (m : Mark). slice_set marks at m) (c.fresh.ensures ∙ ap fresh_mark glue)
    ∙ (sym (with_used-one from at marks c.index-marks-at.result c.if-number-others-2.true) ∙ ap (λ k. with_used (k ∷ []) from marks) back)

pub returns-else-number-others : goal.returns-else-number-others
returns-else-number-others c = elim c.else-number-others.branch [
  | else-number-others-via-then-number-others+else-number-others-2 w ↦
      (let low = w.if-number-others.true in let high = w.if-number-others-2.false in sym (with_used-none c.args.number (c.args.others + 1) c.args.marks.now (λ i less e. omega (arith, low, high, less, e))))
  | else-number-others-via-else-number-others w ↦
      (let low = w.if-number-others.false in sym (with_used-none c.args.number (c.args.others + 1) c.args.marks.now (λ i less e. omega (arith, low, less, e))))
]
