use Rattle.theory.specs.Beginnings.{begun_by}
use Rattle.cubes.proofs.OkLemmas.{if_ok}
use Rattle.cubes.proofs.GatheringLemmas.{says}
use Rattle.cubes.proofs.threads.solve_by_hands.Goals as goal

pub returns-clause-says : goal.returns-clause-says
returns-clause-says g c =
    if_ok c.assemble_in.result _ _ (λ t every. says g.L.KeepsLines.lines c.args.formula.now c.args.plan t c.vars-vars.ensures.within.formula (every (begun_by c.args.plan.search c.args.formula.now) c.args.plan c.in_ok-results.ensures)) c.assemble_in.ensures
