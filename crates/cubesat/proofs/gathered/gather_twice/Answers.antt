use Rattle.std.proofs.Common.{ap, Some, ◌∙◌}
use Rattle.cubesat.proofs.EndLemmas.{gathered-end, held-answers}
use Rattle.cubesat.proofs.gathered.gather_twice.Goals as goal

pub returns : goal.returns
returns g c =
    let held = c.args.run.now.held.now in
    let gathered = c.gather_stored-gathered in
    gathered-end held _ _ gathered.result c.has_ended-has_ended.result c.end_gather.result c.end_gather.ensures
    (λ of is. held-answers held c.over.result.limits c.over.result.strategy _ _ _ _ _ of.verdict c.over.ensures.limits c.over.ensures.strategy
    (ap (λ s. Some s.now) c.of-input.ensures ∙ ap Some c.as_slice.ensures.value) (rw is at gathered.ensures.answer_is_right))
