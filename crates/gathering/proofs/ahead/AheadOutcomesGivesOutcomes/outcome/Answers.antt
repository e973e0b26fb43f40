use Rattle.theory.specs.Beginnings.{begun_by}
use Rattle.std.proofs.lemmas.Result.{on_ok_weaker}
use Rattle.gathering.proofs.ahead.AheadOutcomesGivesOutcomes.outcome.Goals as goal

pub come_to-requires-sync-R : goal.come_to-requires-sync-R
come_to-requires-sync-R g c κs within = c.requires.gives.0

pub returns-clause-still : goal.returns-clause-still
returns-clause-still g c =
    let F = begun_by c.args.plan.search c.args.formula.now in
    let search = c.args.plan.search in
    let before = c.in_ok-come_to.ensures.gives in
    on_ok_weaker c.outcome.result
    (λ stored. (c.requires.gives.0, record { stored = stored; ready = record { checkers = before.ready.checkers; ahead = (c.take_of.ensures.checked search F before.ready.ahead).1 } }))
    c.outcome.ensures.still

pub returns-clause-still_own : goal.returns-clause-still_own
returns-clause-still_own g c = λ own.
    let before = c.in_ok-come_to.ensures.own own in
    on_ok_weaker c.outcome.result
    (λ stored. record { stored = stored; ahead = (c.take_of.ensures.own (begun_by c.args.plan.search c.args.formula.now) c.args.plan before.ahead).1 })
    (c.outcome.ensures.still_own before.stored)
