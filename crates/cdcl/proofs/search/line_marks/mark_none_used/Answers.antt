use Rattle.std.proofs.Common.{◌≡◌, ◌∙◌, List, ap, get_or, slice_set}
use Rattle.theory.specs.Forgetting.{Mark, not_used}
use Rattle.cdcl.proofs.ListsInPlace.{changed-read, changed-next, changed-all}
use Rattle.cdcl.proofs.search.line_marks.mark_none_used.Goals as goal

pub loop-at-preserved : goal.loop-at-preserved
loop-at-preserved c =
    let marks = c.args.marks.now in
    let at = c.loop-at.at in
    let d = c.index-marks-at.result in
    let read : d ≡ get_or marks at d = c.index-marks-at.is ∙ (ap (λ (ms : List Mark). get_or ms at d) c.loop-at.invariant ∙ changed-read not_used marks at d c.loop-at-test.true) in
    ap (λ (m : Mark). slice_set c.loop-at.marks at m) (c.not_used.ensures ∙ ap not_used read)
    ∙ (ap (λ (ms : List Mark). slice_set ms at (not_used (get_or marks at d))) c.loop-at.invariant ∙ changed-next not_used marks at d c.loop-at-test.true)

pub returns : goal.returns
returns c = c.loop-at.invariant ∙ changed-all not_used c.args.marks.now c.loop-at.at c.loop-at-test.false
