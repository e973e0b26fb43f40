use Rattle.std.proofs.Common.{ap, Some, ◌∙◌, sym}
use Rattle.cubesat.proofs.EndLemmas.{gathered-end, held-refuted, transposed}
use Rattle.cubesat.proofs.gathered.gather_once.Goals as goal

pub returns-clause-end : goal.returns-clause-end
returns-clause-end g c =
    let held = c.args.run.now.held.now in
    let gathered = c.gather_at_once-gathered in
    gathered-end held _ _ c.in_ok-gathered.gathered c.has_ended-has_ended.result c.end_gather-end.result c.end_gather-end.ensures
    (λ of is.
    let came = transposed gathered.result c.in_ok-gathered.gathered of (sym c.transpose.ensures ∙ c.in_ok-gathered.was) is in
    held-refuted held c.over.result.limits _ _ _ _ _ _ of.verdict (rw came at gathered.ensures.refuted) c.over.ensures.limits
    (ap (λ s. Some s.now) c.of-input.ensures ∙ ap Some c.as_slice.ensures.value) (rw came at gathered.ensures.answer_is_right))
