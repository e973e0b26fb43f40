use Rattle.lines.proofs.RowLemmas.{one-pushed}
use Rattle.lines.proofs.number.push_last.Goals as goal

pub returns-clause-number : goal.returns-clause-number
returns-clause-number c = one-pushed c.args.bytes.now.items c.push.new.self.items c.args.number c.requires c.in_ok-push.ensures.items
