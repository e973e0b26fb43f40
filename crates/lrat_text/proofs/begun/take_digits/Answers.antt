use Rattle.std.proofs.Common.{◌≡◌, ◌≤◌, true, get_or, sym, ◌∙◌, ap, arith}
use Rattle.std.specs.Char.{is_ascii_digit}
use Rattle.theory.proofs.reading.NumberTexts.{digit-range}
use Rattle.lrat_text.specs.Streams.{positive_so_far, negative_so_far}
use Rattle.lrat_text.specs.declared.begun.Begun.TheVariants.{Positive, Negative}
use Rattle.lrat_text.proofs.PieceLemmas.{TakesWord-more, digit-word, positive-digit, negative-digit, positive-more, negative-more}
use Rattle.lrat_text.proofs.begun.take_digits.Goals as goal

pub loop-at-preserved : goal.loop-at-preserved
loop-at-preserved c =
    let v = c.loop-at.invariant in
    let bytes = c.args.bytes.now in
    let b = get_or bytes c.loop-at.at 0 in
    let m = c.with_digit-size.result in
    let digit : is_ascii_digit b ≡ true = sym c.is_ascii_digit.ensures.value ∙ c.if-is_ascii_digit.true in
    let range = digit-range b digit in
    let more = c.with_digit-size.ensures in
    let least = v.least in
    let most = v.most in
    let above : 1 ≤ m = omega arith in
    let below : m ≤ 9223372036854775808 = omega arith in
    record {
      least = above;
      most = below;
      positive = TakesWord-more bytes (Positive c.args.size) (Positive c.loop-at.size) (Positive m) c.args.start c.loop-at.at c.loop-at-test.true (digit-word b digit) (ap positive_so_far more ∙ sym (positive-digit c.loop-at.size b digit)) v.positive;
      negative = TakesWord-more bytes (Negative c.args.size) (Negative c.loop-at.size) (Negative m) c.args.start c.loop-at.at c.loop-at-test.true (digit-word b digit) (ap negative_so_far more ∙ sym (negative-digit c.loop-at.size b digit)) v.negative;
      positive_word = λ w. positive-more c.loop-at.size m b digit more (above, below) (v.positive_word w);
      negative_word = λ w. negative-more c.loop-at.size m b digit more (above, below) (v.negative_word w);
      forward = (let f = v.forward in omega arith);
      within = omega arith;
    }
