use Rattle.std.proofs.Common.{sym, ◌∙◌}
use Rattle.cdcl.specs.Outcome.{outcome_by}
use Rattle.strategies.specs.Choosing.{alone}
use Rattle.strategies.proofs.DecidedTrees.{planned-decided}
use Rattle.strategies.proofs.FirstSearches.{final, ordered-begun, decided-chosen, exhausted-chosen}
use Rattle.strategies.proofs.phases.ordered_first.Goals as goal

pub returns-in_default : goal.returns-in_default
returns-in_default g c = alone (sym c.first_within.ensures.same ∙ c.in_default.is)

pub returns-then-not-decides : goal.returns-then-not-decides
returns-then-not-decides g c =
    exhausted-chosen c.args.formula.now c.args.strategy c.in-Some.budget (outcome_by g.L.KeepsLines.lines c.in_ok-outcome.outcome) (sym c.first_within.ensures.same ∙ c.in-Some.is) c.in_ok-outcome.ensures (rw c.if-not-decides.true at c.decides.ensures)

pub decided_at_root-requires-clause-begun : goal.decided_at_root-requires-clause-begun
decided_at_root-requires-clause-begun g c = rw c.ordered.ensures (ordered-begun c.args.formula.now c.in-Some.budget)

pub returns : goal.returns
returns g c =
    planned-decided g.L.KeepsLines.lines c.args.formula.now c.args.strategy c.ordered.result c.in_ok-decided.decided
    (rw c.ordered.ensures (decided-chosen c.args.formula.now c.args.strategy c.in-Some.budget (outcome_by g.L.KeepsLines.lines c.in_ok-outcome.outcome) (sym c.first_within.ensures.same ∙ c.in-Some.is) c.in_ok-outcome.ensures (rw c.if-not-decides.false at c.decides.ensures)))
    c.in_ok-decided.ensures
