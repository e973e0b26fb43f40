use Rattle.std.proofs.Common.{arith}
use Rattle.lines.proofs.RowLemmas.{high-pushed}
use Rattle.lines.proofs.number.+push_high.Goals as goal

pub returns-clause-value : goal.returns-clause-value
returns-clause-value t c =
    high-pushed c.args.bytes.now.items c.push_high.new.bytes.items c.push.new.self.items c.args.number c.ranges.number.fits (omega (arith, c.if-number-lt128.false)) c.in_ok-push.ensures.items c.in_ok-push_high.ensures.value
