use Rattle.std.proofs.Common.{◌≡◌, ◌≤◌, length, ap, arith}
use Rattle.std.proofs.lemmas.List.{take_all}
use Rattle.theory.specs.Restarts.{glue}
use Rattle.cdcl.specs.Numbers.{NumberSet}
use Rattle.cdcl.proofs.GlueCounts.{AreLevelsOf, glue-counted, level-within, glue-within}
use Rattle.cdcl.proofs.analysis.glue.glue.Goals as goal
use Rattle.cdcl.proofs.analysis.glue.glue.Goals.{After-list}

pub insert-requires : goal.insert-requires
insert-requires c =
    let most = level-within c.args.kernel.now.vars c.args.kernel.now.clauses c.args.kernel.now.trail c.lit-item.result c.trail-trail.ensures.lawful c.trail-trail.ensures.over in
    let is = c.level_of-level.ensures in
    let bound = c.loop-lit.invariant.bound in
    let same = ap (λ (s : NumberSet). s.bound) c.clear.ensures in
    let room = c.requires in
    omega arith

counted : (c : After-list) → length c.list.result.now ≡ glue c.args.kernel.now.trail c.args.clause.now
counted c =
    let all : AreLevelsOf c.args.kernel.now.trail c.args.clause.now c.list.result.now =
    rw c.list.ensures.numbers (rw (take_all c.loop-lit.lit-index c.args.clause.now c.loop-lit-test.false) at c.loop-lit.invariant.levels) in
    glue-counted c.args.kernel.now.clauses c.args.kernel.now.trail c.args.clause.now c.list.result.now c.trail-trail.ensures.lawful c.list.ensures.once all

within : (c : After-list) → length c.list.result.now ≤ c.args.kernel.now.vars
within c =
    let most = glue-within c.args.kernel.now.vars c.args.kernel.now.clauses c.args.kernel.now.trail c.args.clause.now c.trail-trail.ensures.lawful c.trail-trail.ensures.over in
    let is = counted c in
    omega arith

pub overflow_cast-result : goal.overflow_cast-result
overflow_cast-result c = let most = within c in let few = c.vars-vars.ensures in omega arith

pub returns-clause-glue : goal.returns-clause-glue
returns-clause-glue c = counted c

pub returns-clause-few : goal.returns-clause-few
returns-clause-few c = within c
