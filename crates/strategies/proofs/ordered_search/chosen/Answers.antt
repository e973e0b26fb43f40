use Rattle.std.proofs.Common.{sym, ◌∙◌, subst}
use Rattle.cdcl.specs.Outcome.{outcome_of}
use Rattle.strategies.specs.Choosing.{IsChosen, alone}
use Rattle.strategies.proofs.FirstSearches.{decided-chosen, exhausted-chosen}
use Rattle.strategies.proofs.ordered_search.chosen.Goals as goal

pub returns-in_default : goal.returns-in_default
returns-in_default g c = subst (IsChosen c.args.formula.now c.args.strategy) (sym c.plan.ensures) (alone (sym c.first_within.ensures.same ∙ c.in_default.is))

pub returns-then-decides : goal.returns-then-decides
returns-then-decides g c =
    subst (IsChosen c.args.formula.now c.args.strategy) (sym c.ordered.ensures)
    (decided-chosen c.args.formula.now c.args.strategy c.in-Some.budget (outcome_of c.in_ok-outcome.outcome) (sym c.first_within.ensures.same ∙ c.in-Some.is) c.in_ok-outcome.ensures (rw c.if-decides.true at c.decides.ensures))

pub returns : goal.returns
returns g c =
    subst (IsChosen c.args.formula.now c.args.strategy) (sym c.plan-2.ensures)
    (exhausted-chosen c.args.formula.now c.args.strategy c.in-Some.budget (outcome_of c.in_ok-outcome.outcome) (sym c.first_within.ensures.same ∙ c.in-Some.is) c.in_ok-outcome.ensures (rw c.if-decides.false at c.decides.ensures))
