use Rattle.std.proofs.Common.{ap, arith, length}
use Rattle.lines.proofs.RowLemmas.{AreWithin-tail}
use Rattle.lines.proofs.cursor.Cursor.next.Goals as goal

pub invariant_of-self : goal.invariant_of-self
invariant_of-self c =
    let read = c.in_ok-self-inside.ensures in
    let one_less = ap length read.line in
    let left = c.self.invariant.2 in (
      read.inside,
      read.whole,
      omega (arith, one_less, left),
      AreWithin-tail c.self.inside.literals c.self.inside.numbers _ _ _ read.line c.self.invariant.3,
    )
