use Rattle.lines.proofs.RowLemmas.{number-pushed}
use Rattle.lines.proofs.number.push_number.Goals as goal

pub returns-clause-number : goal.returns-clause-number
returns-clause-number c =
    number-pushed c.args.bytes.now.items c.push_high.new.bytes.items c.push.new.self.items c.args.number c.ranges.number.fits c.in_ok-push.ensures.items c.in_ok-push_high.ensures.value
