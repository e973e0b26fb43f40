use Rattle.std.proofs.Common.{◌≡◌, true, ap, ◌∙◌, min, subst}
use Rattle.theory.specs.Plans.{Constants, focused}
use Rattle.cdcl.specs.Outcome.{outcome_by}
use Rattle.strategies.proofs.BegunLemmas.{first-runs}
use Rattle.strategies.proofs.short_search.short_outcome.Goals as goal

pub returns : goal.returns
returns g c =
    let first = c.focused_by-first.result in
    let conflicts = c.min-conflicts.result in
    let is = subst (λ (k : Constants). first ≡ record { search = focused k; budget = conflicts; divide = 0; simplify = true }) c.constants.ensures.same c.focused_by-first.ensures in
    first-runs c.args.formula.now c.args.plan first conflicts c.in_ok-solver.solver (outcome_by g.L.KeepsLines.lines c.in_ok-outcome.outcome) is (c.min-conflicts.ensures ∙ ap (λ n. min 1000 n) c.budget.ensures.same) c.in_ok-solver.ensures
    (rw c.root-root.ensures at c.in_ok-outcome.ensures.runs)
