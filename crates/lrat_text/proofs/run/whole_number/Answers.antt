use Rattle.std.proofs.Common.{sym, ◌∙◌}
use Rattle.lrat_text.proofs.RunLemmas.{stands-whole}
use Rattle.lrat_text.proofs.run.whole_number.Goals as goal

pub returns-then-number-le-MAX_NUMBER : goal.returns-then-number-le-MAX_NUMBER
returns-then-number-le-MAX_NUMBER c =
    let e = c.take_digits-number.ensures in
    stands-whole c.args.bytes.now c.args.start c.take_digits-number.result.0 c.take_digits-number.result.1 c.requires.inside
    (sym c.is_ascii_digit.ensures.value ∙ c.if-not-is_ascii_digit.false) c.if-first-eq48.false e.positive e.negative (e.size.0, c.if-number-le-MAX_NUMBER.true)
    (sym c.is_blank.ensures ∙ c.if-is_blank.true) e.forward c.if-end-bytes.true
