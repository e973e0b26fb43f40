use Rattle.std.proofs.Common.{refl}
use Rattle.theory.proofs.searching.FoundModels.{IsFound-satisfies}
use Rattle.strategies.proofs.FoundModels.{long-variables, checked-long, checked-found}
use Rattle.strategies.proofs.DecidedTrees.{alone-chosen, kept-found, kept-decided, checked-refuted}
use Rattle.strategies.proofs.first_model.answered.Goals as goal

pub extended-model-requires : goal.extended-model-requires
extended-model-requires g c =
    let F = c.args.formula.now in
    let M = c.in-Model.values.items in
    long-variables F c.args.strategy.plan c.args.begun.now M c.requires.begun (checked-long F c.args.strategy.plan c.args.begun.now M c.requires.begun (rw c.in-Model.is at c.requires.checked))

pub returns-then-not-is_lowered-clause-says : goal.returns-then-not-is_lowered-clause-says
returns-then-not-is_lowered-clause-says g c =
    rw c.extended-model.ensures
    (kept-found c.args.formula.now c.args.strategy c.args.begun.now c.in-Model.values.items c.vars-vars.ensures.within.formula (rw c.plan-plan.ensures at (c.is_lowered.ensures.kept c.if-not-is_lowered.true)) c.requires.begun (rw c.in-Model.is at c.requires.checked))

pub returns-then-not-is_lowered-clause-own : goal.returns-then-not-is_lowered-clause-own
returns-then-not-is_lowered-clause-own g c = λ r.
    rw c.extended-model.ensures
    (kept-decided c.args.formula.now c.args.strategy c.args.begun.now c.in-Model.values.items c.vars-vars.ensures.within.formula c.requires.alone (rw c.plan-plan.ensures at (c.is_lowered.ensures.kept c.if-not-is_lowered.true)) c.requires.begun (rw c.in-Model.is at r))

pub lower-requires : goal.lower-requires
lower-requires g c =
    let plan = c.args.strategy.plan in
    let M = c.in-Model.values.items in
    rw c.extended-model.ensures (IsFound-satisfies plan.search c.args.formula.now _ (checked-found c.args.formula.now plan c.args.begun.now M c.vars-vars.ensures.within.formula c.requires.begun (rw c.in-Model.is at c.requires.checked)))

pub returns-clause-says : goal.returns-clause-says
returns-clause-says g c = checked-refuted c.args.formula.now c.args.strategy.plan c.args.begun.now c.in-Refuted.nodes c.vars-vars.ensures.within.formula c.requires.begun (rw c.in-Refuted.is at c.requires.checked)

pub returns-clause-own : goal.returns-clause-own
returns-clause-own g c = λ r. (c.args.strategy.plan, alone-chosen c.args.formula.now c.args.strategy c.requires.alone, refl, (c.requires.begun, rw c.in-Refuted.is at r))
