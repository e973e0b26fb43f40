use Rattle.std.proofs.Common.{◌+◌, [], ap, sym, ◌∙◌, arith, length}
use Rattle.lines.specs.Rows.{Part, row, whole}
use Rattle.lines.proofs.RowLemmas.{lines-within, length-push, AreWithin-push}
use Rattle.lines.proofs.row.Row.push.Goals as goal

pub overflow_add-self : goal.overflow_add-self
overflow_add-self c =
    omega (arith, c.self.invariant.1, lines-within (whole []) c.self.inside.bytes.items, c.self.inside.bytes.ok.0, c.self.inside.bytes.small)

pub invariant_of-self : goal.invariant_of-self
invariant_of-self c =
    let e = c.in-Ok.ensures.line _ c.self.invariant.0 in
    let lines = ap (λ (p : Part). p.lines) e in (
      e ∙ ap whole (sym lines),
      ap (λ n. n + 1) c.self.invariant.1 ∙ sym (ap length lines ∙ length-push (row c.self.inside.bytes.items).lines _),
      rw lines (AreWithin-push c.self.inside.literals c.self.inside.numbers _ _ (row c.self.inside.bytes.items).lines _ (omega arith) (omega arith) (omega arith) (omega arith) (omega arith) c.self.invariant.2),
    )
