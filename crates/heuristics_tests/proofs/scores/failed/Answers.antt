use Rattle.std.proofs.Common.{◌≡◌, ap, sym, length, ◌∙◌}
use Rattle.heuristics.specs.Rankings.{Ranking}
use Rattle.heuristics_tests.proofs.FirstScores.{first-vars}
use Rattle.heuristics_tests.proofs.scores.failed.Goals as goal

pub first_failed-requires-clause-vars : goal.first_failed-requires-clause-vars
first_failed-requires-clause-vars c =
    let many : length c.deref.result.now ≡ c.args.vars = rw c.deref.ensures.value c.in_ok-all.ensures.0 in
    first-vars c.small.result c.args.vars c.in_ok-scores.scores (ap (λ (r : Ranking). r.scores) c.in_ok-scores.ensures) ∙ sym many
