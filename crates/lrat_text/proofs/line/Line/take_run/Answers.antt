use Rattle.std.proofs.Common.{refl}
use Rattle.lrat_text.proofs.RunLemmas.{hints-run, group-run, ids-run}
use Rattle.lrat_text.proofs.line.Line.take_run.Goals as goal

pub returns-in_ok-take_numbers-in-Hints-clause-taken : goal.returns-in_ok-take_numbers-in-Hints-clause-taken
returns-in_ok-take_numbers-in-Hints-clause-taken c =
    let old = c.args.self.now in
    hints-run c.args.bytes.now old (record old { hints = c.take_numbers.new.numbers }) c.args.start c.in_ok-take_numbers-in-Hints.field-0 c.in-Hints.is refl
    c.in_ok-take_numbers-in-Hints.ensures.taken

pub returns-in_ok-take_numbers-in-GroupHints-clause-taken : goal.returns-in_ok-take_numbers-in-GroupHints-clause-taken
returns-in_ok-take_numbers-in-GroupHints-clause-taken c =
    let old = c.args.self.now in
    group-run c.args.bytes.now old (record old { group_hints = c.take_numbers-in-GroupHints.new.numbers }) c.args.start c.in_ok-take_numbers-in-GroupHints.field-0 c.in-GroupHints.is refl
    c.in_ok-take_numbers-in-GroupHints.ensures.taken

pub returns-in_ok-take_numbers-in-Ids-clause-taken : goal.returns-in_ok-take_numbers-in-Ids-clause-taken
returns-in_ok-take_numbers-in-Ids-clause-taken c =
    let old = c.args.self.now in
    ids-run c.args.bytes.now old (record old { hints = c.take_numbers-in-Ids.new.numbers }) c.args.start c.in_ok-take_numbers-in-Ids.field-0 c.in-Ids.is refl
    c.in_ok-take_numbers-in-Ids.ensures.taken
