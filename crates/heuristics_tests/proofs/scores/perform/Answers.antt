use Rattle.std.proofs.Common.{ap, ◌∙◌}
use Rattle.heuristics.specs.Rankings.{Ranking, vars_of}
use Rattle.heuristics_tests.proofs.FirstScores.{first-vars}
use Rattle.heuristics_tests.proofs.scores.perform.Goals as goal

pub returns-in-BeginAgain : goal.returns-in-BeginAgain
returns-in-BeginAgain c =
    let r = c.args.scores.now in
    first-vars r.constants (vars_of r) c.begin_again.new.self (ap (λ (t : Ranking). t.scores) c.begin_again.ensures) ∙ c.requires.vars
