use Rattle.std.proofs.Common.{ℕ, decimal, take, arith, rules, get_or}
use Rattle.std.proofs.lemmas.Fmt.{length-decimal-le}
use Rattle.std.proofs.lemmas.List.{get_or_default}
use Rattle.lrat_text.proofs.WordLemmas.{words-more}
use Rattle.lrat_text.proofs.placed.place_numbers.Goals as goal

pub place_number-end-requires : goal.place_number-end-requires
place_number-end-requires c = search (rules, length-decimal-le 20)

pub loop-number-preserved : goal.loop-number-preserved
loop-number-preserved c =
    let l = c.loop-number in
    let short = λ (i : ℕ). length-decimal-le 20 (get_or c.args.numbers.now i 0) (omega arith) (omega (arith, (c.type_inv.numbers i).fits)) (omega (arith, (c.type_inv.numbers i).fits)) in
    record {
      left = words-more decimal _ (take l.end l.bytes) (take c.place_number-end.result c.place_number-end.new.bytes) c.args.numbers.now l.number-index (get_or c.args.numbers.now l.number-index 0) c.loop-number-test.true
          (get_or_default c.args.numbers.now l.number-index 0 _ c.loop-number-test.true) l.invariant.left c.place_number-end.ensures.text;
      room = omega (arith, short l.number-index, c.place_number-end.ensures.end, c.place_number-end.auto.bytes, l.invariant.room, c.loop-number-test.true);
      within = omega (arith, short l.number-index, c.place_number-end.ensures.end, l.invariant.within);
    }
