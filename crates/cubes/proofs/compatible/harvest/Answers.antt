use Rattle.theory.specs.Plans.{ordered_within}
use Rattle.cubes.proofs.OkLemmas.{if_ok}
use Rattle.cubes.proofs.compatible.harvest.Goals as goal

pub returns-clause-closed : goal.returns-clause-closed
returns-clause-closed c =
    if_ok c.close_all.result _ _ (λ r harvested. let all = harvested (ordered_within c.args.budget) c.requires.works in (all.least, all.closed)) c.close_all.ensures.harvested

pub returns-clause-once : goal.returns-clause-once
returns-clause-once c =
    if_ok c.close_all.result _ _ (λ r harvested. (harvested (ordered_within c.args.budget) c.requires.works).once) c.close_all.ensures.harvested

pub returns-clause-whole : goal.returns-clause-whole
returns-clause-whole c =
    if_ok c.close_all.result _ _ (λ r harvested. (harvested (ordered_within c.args.budget) c.requires.works).whole) c.close_all.ensures.harvested
