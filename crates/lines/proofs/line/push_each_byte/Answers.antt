use Rattle.std.proofs.Common.{[]}
use Rattle.lines.specs.Rows.{hints_part, forgets_part}
use Rattle.lines.proofs.LineLemmas.{hints-listing, forgets-listing}
use Rattle.lines.proofs.line.push_each_byte.Goals as goal

pub returns-clause-line : goal.returns-clause-line
returns-clause-line c = λ lines e.
    let clause = c.args.clause.now in
    let hints = c.args.hints.now in
    c.in_ok-push_numbers-2.ensures.numbers (forgets_part lines clause hints [] 0) (forgets-listing lines clause hints)
    (c.in_ok-push_numbers.ensures.numbers (hints_part lines clause [] 0) (hints-listing lines clause) (c.in_ok-push_clause.ensures.clause lines e))
