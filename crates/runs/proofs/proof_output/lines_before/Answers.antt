use Rattle.std.proofs.Common.{ap, ◌∙◌}
use Rattle.simplify.specs.Made.{steps_from}
use Rattle.runs.proofs.proof_output.lines_before.Goals as goal

pub returns-clause-left : goal.returns-clause-left
returns-clause-left c =
    c.in_ok-lines.ensures.left ∙ (ap (λ n. steps_from n c.take_lines-row.result) c.clause_count-clauses.ensures.count ∙ c.take_lines-row.ensures.lines c.args.formula.now)

pub returns-clause-formula : goal.returns-clause-formula
returns-clause-formula c = c.take_lines-row.ensures.formula c.args.formula.now
