use Rattle.std.proofs.Common.{◌∙◌, ◌+◌, ◌∷◌, [], List, ℕ, ap, sym, get_or}
use Rattle.std.proofs.lemmas.List.{take_more}
use Rattle.theory.specs.Forgetting.{Mark, with_used}
use Rattle.cdcl.proofs.UsedMarks.{with_used-first, with_used-push}
use Rattle.cdcl.proofs.search.line_marks.mark_all_used.Goals as goal

pub loop-number-init : goal.loop-number-init
loop-number-init c = with_used-first (c.args.others + 1) c.args.marks.now

pub loop-number-preserved : goal.loop-number-preserved
loop-number-preserved c =
    let ns = c.args.numbers.now in
    let i = c.loop-number.number-index in
    c.mark_used.ensures
    ∙ (ap (λ (marks : List Mark). with_used (get_or ns i 0 ∷ []) (c.args.others + 1) marks) c.loop-number.invariant
    ∙ (with_used-push _ (get_or ns i 0) (c.args.others + 1) c.args.marks.now ∙ ap (λ (ms : List ℕ). with_used ms (c.args.others + 1) c.args.marks.now) (sym (take_more ns i 0 c.loop-number-test.true))))
