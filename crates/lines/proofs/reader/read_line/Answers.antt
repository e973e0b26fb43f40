use Rattle.std.proofs.Common.{[]}
use Rattle.lines.specs.Rows.{hints_part, forgets_part}
use Rattle.lines.proofs.LineLemmas.{hints-listing, forgets-listing}
use Rattle.lines.proofs.ReadingLemmas.{line-read}
use Rattle.lines.proofs.reader.read_line.Goals as goal

pub returns-clause-whole : goal.returns-clause-whole
returns-clause-whole c =
    let clause = c.read_clause.new.clause.items in
    let hints = c.read_numbers.new.numbers.items in
    let line = line-read c.args.bytes.now c.args.at c.in_ok-behind_clause.behind_clause c.in_ok-behind_hints.behind_hints c.in_ok-end.end clause hints c.read_numbers-2.new.numbers.items c.requires.whole
    c.in_ok-behind_clause.ensures.clause (c.in_ok-behind_hints.ensures.numbers (hints_part [] clause [] 0) (hints-listing [] clause))
    (c.in_ok-end.ensures.numbers (forgets_part [] clause hints [] 0) (forgets-listing [] clause hints)) in
    line.0

pub returns-clause-line : goal.returns-clause-line
returns-clause-line c =
    let clause = c.read_clause.new.clause.items in
    let hints = c.read_numbers.new.numbers.items in
    let line = line-read c.args.bytes.now c.args.at c.in_ok-behind_clause.behind_clause c.in_ok-behind_hints.behind_hints c.in_ok-end.end clause hints c.read_numbers-2.new.numbers.items c.requires.whole
    c.in_ok-behind_clause.ensures.clause (c.in_ok-behind_hints.ensures.numbers (hints_part [] clause [] 0) (hints-listing [] clause))
    (c.in_ok-end.ensures.numbers (forgets_part [] clause hints [] 0) (forgets-listing [] clause hints)) in
    line.1
