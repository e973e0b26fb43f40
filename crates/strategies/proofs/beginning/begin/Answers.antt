use Rattle.cdcl.specs.Plans.{constants_from}
use Rattle.theory.specs.Search.{model, refuted}
use Rattle.strategies.proofs.BegunLemmas.{given-begun, unwanted, hard, simplified-begun, decided}
use Rattle.strategies.proofs.beginning.begin.Goals as goal

pub returns-then-not-may_simplify : goal.returns-then-not-may_simplify
returns-then-not-may_simplify g c = given-begun c.args.formula.now c.args.plan (unwanted c.args.formula.now c.args.plan (λ both. let wants = c.may_simplify.ensures.1 both in let no = c.if-not-may_simplify.true in absurd (cc)))

pub returns-in-Model : goal.returns-in-Model
returns-in-Model g c =
    let wants = c.may_simplify.ensures.0 c.if-not-may_simplify.false in
    decided c.args.formula.now c.args.plan (constants_from c.args.plan.search) (model c.in-Model.values.items) wants.1 (rw c.budget-budget.ensures.same at c.budget-budget.ensures.within.0) tt (rw c.in-Model.is at c.in_ok-values.ensures)

pub returns-in-Refuted : goal.returns-in-Refuted
returns-in-Refuted g c =
    let wants = c.may_simplify.ensures.0 c.if-not-may_simplify.false in
    decided c.args.formula.now c.args.plan (constants_from c.args.plan.search) (refuted (g.L.KeepsLines.lines c.in-Refuted.lines)) wants.1 (rw c.budget-budget.ensures.same at c.budget-budget.ensures.within.0) tt (rw c.in-Refuted.is at c.in_ok-values.ensures)

pub simplified-requires : goal.simplified-requires
simplified-requires g c =
    let wants = c.may_simplify.ensures.0 c.if-not-may_simplify.false in
    (hard c.args.formula.now c.args.plan (constants_from c.args.plan.search) c.in-Exhausted.field-0 wants.1 wants.0 (rw c.in-Exhausted.is at c.in_ok-values.ensures)).1

pub returns-in_ok-left-in-Exhausted : goal.returns-in_ok-left-in-Exhausted
returns-in_ok-left-in-Exhausted g c =
    let wants = c.may_simplify.ensures.0 c.if-not-may_simplify.false in
    let to_simplify = (hard c.args.formula.now c.args.plan (constants_from c.args.plan.search) c.in-Exhausted.field-0 wants.1 wants.0 (rw c.in-Exhausted.is at c.in_ok-values.ensures)).0 in
    let made = c.in_ok-left-in-Exhausted.ensures in
    simplified-begun c.args.formula.now c.args.plan (constants_from c.args.plan.search) made.0 c.in_ok-left-in-Exhausted.left wants.1 to_simplify made.1 made.2
