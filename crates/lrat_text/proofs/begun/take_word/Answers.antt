use Rattle.std.proofs.Common.{◌+◌, sym, ◌∙◌, arith, subst}
use Rattle.lrat_text.specs.declared.begun.Begun.TheVariants.{Positive, Negative}
use Rattle.lrat_text.specs.Pieces.{IsBegunWord, TakesWord}
use Rattle.lrat_text.proofs.PieceLemmas.{word-more, TakesWord-more, TakesWord-then}
use Rattle.lrat_text.proofs.begun.take_word.Goals as goal

pub loop-at-preserved-in-Positive : goal.loop-at-preserved-in-Positive
loop-at-preserved-in-Positive c =
    let v = c.loop-at.invariant in
    let bytes = c.args.bytes.now in
    let one = word-more c.loop-at.begun c.with_byte-begun.result _ v.begun c.with_byte-begun.ensures.counted c.with_byte-begun.ensures.word in
    let taken = TakesWord-more bytes c.args.begun c.loop-at.begun c.with_byte-begun.result c.args.start c.loop-at.at c.loop-at-test.true (sym c.ends_word.ensures ∙ c.if-not-ends_word.true) c.with_byte-begun.ensures.word v.taken in
    let e = c.take_digits-more.ensures in
    record {
      begun = e.begun.0 (subst IsBegunWord c.in-Positive.is one);
      taken = TakesWord-then bytes c.args.begun (Positive c.in-Positive.size) (Positive c.take_digits-more.result.0) c.args.start (c.loop-at.at + 1) c.take_digits-more.result.1
          (subst (λ g. TakesWord bytes c.args.begun c.args.start g (c.loop-at.at + 1)) c.in-Positive.is taken) e.positive;
      forward = (let f = v.forward in let g = e.forward in omega arith);
      within = e.within;
    }

pub loop-at-preserved-in-Negative : goal.loop-at-preserved-in-Negative
loop-at-preserved-in-Negative c =
    let v = c.loop-at.invariant in
    let bytes = c.args.bytes.now in
    let one = word-more c.loop-at.begun c.with_byte-begun.result _ v.begun c.with_byte-begun.ensures.counted c.with_byte-begun.ensures.word in
    let taken = TakesWord-more bytes c.args.begun c.loop-at.begun c.with_byte-begun.result c.args.start c.loop-at.at c.loop-at-test.true (sym c.ends_word.ensures ∙ c.if-not-ends_word.true) c.with_byte-begun.ensures.word v.taken in
    let e = c.take_digits-more-in-Negative.ensures in
    record {
      begun = e.begun.1 (subst IsBegunWord c.in-Negative.is one);
      taken = TakesWord-then bytes c.args.begun (Negative c.in-Negative.size) (Negative c.take_digits-more-in-Negative.result.0) c.args.start (c.loop-at.at + 1) c.take_digits-more-in-Negative.result.1
          (subst (λ g. TakesWord bytes c.args.begun c.args.start g (c.loop-at.at + 1)) c.in-Negative.is taken) e.negative;
      forward = (let f = v.forward in let g = e.forward in omega arith);
      within = e.within;
    }

pub loop-at-preserved : goal.loop-at-preserved
loop-at-preserved c =
    let v = c.loop-at.invariant in
    record {
      begun = word-more c.loop-at.begun c.with_byte-begun.result _ v.begun c.with_byte-begun.ensures.counted c.with_byte-begun.ensures.word;
      taken = TakesWord-more c.args.bytes.now c.args.begun c.loop-at.begun c.with_byte-begun.result c.args.start c.loop-at.at c.loop-at-test.true (sym c.ends_word.ensures ∙ c.if-not-ends_word.true) c.with_byte-begun.ensures.word v.taken;
      forward = (let f = v.forward in omega arith);
      within = omega arith;
    }
