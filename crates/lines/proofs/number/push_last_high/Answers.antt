use Rattle.std.proofs.Common.{arith}
use Rattle.lines.proofs.RowLemmas.{one-high-pushed}
use Rattle.lines.proofs.number.push_last_high.Goals as goal

pub returns-clause-value : goal.returns-clause-value
returns-clause-value c = one-high-pushed c.args.bytes.now.items c.push.new.self.items c.args.number c.requires (omega (arith, c.if-number-eq0.false)) c.in_ok-push.ensures.items
