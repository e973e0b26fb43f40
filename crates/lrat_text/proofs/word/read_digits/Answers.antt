use Rattle.std.proofs.Common.{◌≡◌, true, false, ◌∙◌, sym, get_or, arith}
use Rattle.std.specs.Char.{is_ascii_digit}
use Rattle.lrat_text.specs.LineWords.{ends_word}
use Rattle.lrat_text.proofs.DigitLemmas.{digit-goes_on, place-more, rest-more, all-digit, all-other, size-digit}
use Rattle.theory.proofs.reading.NumberTexts.{digit-range}
use Rattle.lrat_text.proofs.word.read_digits.Goals as goal
use Rattle.lrat_text.proofs.word.read_digits.Goals.{then-is_ascii_digit, else-is_ascii_digit+else-ends_word}

pub loop-end-preserved : goal.loop-end-preserved
loop-end-preserved c =
    let bytes = c.args.bytes.now in
    let i = c.loop-end.end in
    let g = c.loop-end.invariant in
    let inside = c.loop-end-test.true in
    elim c.if-is_ascii_digit.branch [
      | then-is_ascii_digit w ↦ (
          let digit : is_ascii_digit (get_or bytes i 0) ≡ true = sym c.is_ascii_digit.ensures.value ∙ w.if-is_ascii_digit.true in
          let bounds = digit-range (get_or bytes i 0) digit in
          let goes_on : ends_word (get_or bytes i 0) ≡ false = digit-goes_on (get_or bytes i 0) bounds.0 bounds.1 in
          record {
            within = omega arith;
            place = place-more bytes i _ inside goes_on g.place;
            rest = rest-more bytes _ i inside goes_on g.rest;
            all = rw w.all-is (all-digit bytes i c.loop-end.all _ inside goes_on digit g.all);
            small = rw (w.size-is, w.with_digit-size.ensures) (omega arith);
            size = λ e. rw (w.size-is, w.with_digit-size.ensures) (size-digit bytes i c.loop-end.size _ inside goes_on digit (g.size (sym w.all-is ∙ e)));
          }
          )
      | else-is_ascii_digit+else-ends_word w ↦ (
          let other : is_ascii_digit (get_or bytes i 0) ≡ false = sym c.is_ascii_digit.ensures.value ∙ w.if-is_ascii_digit.false in
          let goes_on : ends_word (get_or bytes i 0) ≡ false = sym w.ends_word.ensures ∙ w.if-ends_word.false in
          record {
            within = omega arith;
            place = place-more bytes i _ inside goes_on g.place;
            rest = rest-more bytes _ i inside goes_on g.rest;
            all = rw w.all-is (all-other bytes i c.loop-end.all _ inside goes_on other g.all);
            small = rw w.size-is g.small;
            size = λ e. absurd (cc (e, w.all-is));
          }
          )
    ]
