use Rattle.std.proofs.Common.{◌≡◌, length, drop, ap, sym, ◌∙◌, subst, arith}
use Rattle.lines.specs.Rows.{row, IsWhole}
use Rattle.lines.proofs.RowLemmas.{AreWithin-tail}
use Rattle.lines.proofs.row.Row.take_first.Goals as goal

pub invariant_of-self : goal.invariant_of-self
invariant_of-self c =
    let left = c.cut_front.new.bytes.items in
    let cut : left ≡ drop c.in_ok-end.end c.deref.result.now = c.cut_front.ensures ∙ ap (drop c.in_ok-end.end) (sym c.deref.ensures.value) in
    let first = rw (sym cut, c.deref.ensures.value) at c.in_ok-end.ensures.line in
    let count = ap length first in (
      subst IsWhole (sym cut) c.in_ok-end.ensures.whole,
      omega (arith, c.self.invariant.1, count),
      AreWithin-tail c.self.inside.literals c.self.inside.numbers (row c.self.inside.bytes.items).lines (row left).lines (record { clause = c.read_line.new.clause.items; hints = c.read_line.new.hints.items; forgets = c.read_line.new.forgets.items }) first c.self.invariant.2,
    )
