use Rattle.theory.specs.Beginnings.{begun_by}
use Rattle.cubes.proofs.FreshHands.{new-vars, home-all, home-works}
use Rattle.cubes.proofs.OkLemmas.{if_ok}
use Rattle.cubes.proofs.threads.results_in.Goals as goal

pub all_work-requires-clause-vars : goal.all_work-requires-clause-vars
all_work-requires-clause-vars g c = λ κs bounds. new-vars c.args.formula.now.vars c.args.pool c.args.hands.items c.requires.hands

pub close_all-requires-clause-pool : goal.close_all-requires-clause-pool
close_all-requires-clause-pool g c =
    home-all g.L.KeepsLines.lines (begun_by c.args.plan.search c.args.formula.now) c.args.plan c.args.pool c.args.hands.items c.in_ok-works.works.items c.requires.hands c.in_ok-works.ensures.len c.in_ok-works.ensures.each

pub returns : goal.returns
returns g c =
    let worked = home-works g.L.KeepsLines.lines (begun_by c.args.plan.search c.args.formula.now) c.args.plan c.args.pool c.args.hands.items c.in_ok-works.works.items c.requires.hands c.in_ok-works.ensures.len c.in_ok-works.ensures.each in
    if_ok c.close_all.result _ _ (λ r harvested. (harvested c.args.plan worked).whole) c.close_all.ensures.harvested
