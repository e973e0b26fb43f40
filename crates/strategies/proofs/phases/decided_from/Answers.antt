use Rattle.std.proofs.Common.{refl}
use Rattle.strategies.proofs.FoundModels.{long-variables, result-long, model-begun}
use Rattle.strategies.proofs.phases.decided_from.Goals as goal

pub extended-requires : goal.extended-requires
extended-requires g c =
    let F = c.args.formula.now in
    let M = c.in-Model.values.items in
    long-variables F c.args.plan c.args.begun M c.requires.begun (result-long F c.args.plan c.args.begun M c.vars-vars.ensures.within.formula c.requires.begun (rw c.in-Model.is at c.requires.result))

pub returns-in-Model : goal.returns-in-Model
returns-in-Model g c = record {
  plan_is = refl;
  tree = rw c.extended.ensures (model-begun c.args.formula.now c.args.plan c.args.begun c.in-Model.values.items c.vars-vars.ensures.within.formula c.requires.begun (rw c.in-Model.is at c.requires.result));
}

pub returns-in-Refuted : goal.returns-in-Refuted
returns-in-Refuted g c = record { plan_is = refl; tree = (c.requires.begun, rw c.in-Refuted.is at c.requires.result) }
