use Rattle.std.proofs.Common.{[]}
use Rattle.cdcl.specs.Outcome.{outcome_by}
use Rattle.cdcl.proofs.SearcherLemmas.{undivided-runs}
use Rattle.strategies.proofs.ordered_search.first_outcome.Goals as goal

pub returns : goal.returns
returns g c =
    undivided-runs c.args.formula.now c.args.budget [] c.ordered.result c.in_ok-solver.solver (outcome_by g.L.KeepsLines.lines c.in_ok-outcome.outcome) c.ordered.ensures c.in_ok-solver.ensures
    (rw c.root-root.ensures at c.in_ok-outcome.ensures.runs)
