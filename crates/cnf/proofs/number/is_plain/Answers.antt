use Rattle.std.proofs.Common.{◌∙◌, sym, ap, not, ne_eqb}
use Rattle.cnf.proofs.NumberLemmas.{plain-first, plain-leading}
use Rattle.cnf.proofs.number.is_plain.Goals as goal

pub returns-then-bytes-from-ne48 : goal.returns-then-bytes-from-ne48
returns-then-bytes-from-ne48 c =
    ap not (ne_eqb _ 48 c.if-bytes-from-ne48.true) ∙ sym (plain-first c.args.minus c.args.bytes.now c.args.from c.args.end c.if-from-end.true c.requires.within c.requires.digits c.if-bytes-from-ne48.true)

pub returns-else-end-from : goal.returns-else-end-from
returns-else-end-from c =
    ne_eqb _ _ c.if-end-from.false ∙ sym (plain-leading c.args.minus c.args.bytes.now c.args.from c.args.end c.if-from-end.true c.requires.within c.if-bytes-from-ne48.false c.if-end-from.false)
