use Rattle.std.proofs.Common.{ap, sym, ◌∙◌, arith, take, get_or}
use Rattle.std.proofs.lemmas.List.{take_more, take_all}
use Rattle.lines.specs.Rows.{listed}
use Rattle.lines.proofs.LineLemmas.{numbers-more, numbers-end}
use Rattle.lines.proofs.PlacedLemmas.{front-within}
use Rattle.lines.proofs.placed.place_numbers.Goals as goal

pub loop-number-preserved : goal.loop-number-preserved
loop-number-preserved c =
    let at = c.loop-number.number-index in
    let xs = c.args.numbers.now in
    let v = c.loop-number.invariant in
    let old = take c.loop-number.end c.loop-number.bytes in
    let new = take c.place_number-end.result c.place_number-end.new.bytes in
    record {
      behind = omega (arith, v.behind, c.place_number-end.ensures.behind);
      within = omega (arith, v.within, c.place_number-end.ensures.within);
      last = omega (arith, c.if-number-gt-MAX_HINT.false);
      room = omega (arith, v.room, c.place_number-end.ensures.within, c.loop-number-test.true, c.place_number-end.auto.bytes);
      front = front-within _ _ c.args.at c.loop-number.end v.behind c.place_number-end.ensures.front ∙ v.front;
      numbers = λ p l e. numbers-more p l (take at xs) old new c.loop-number.last c.hint_number.result (get_or xs at 0) c.hint_number.ensures.some
          c.hint_number.ensures.hint (v.numbers p l e) c.place_number-end.ensures.number
          ∙ ap (λ x. listed p.section p x (get_or xs at 0)) (sym (take_more xs at 0 c.loop-number-test.true));
    }

pub returns-clause-front : goal.returns-clause-front
returns-clause-front c = front-within _ _ c.args.at c.loop-number.end c.loop-number.invariant.behind c.place_number.ensures.front ∙ c.loop-number.invariant.front

pub returns-clause-numbers : goal.returns-clause-numbers
returns-clause-numbers c = λ p l e.
    let all = ap (λ x. listed p.section p x c.loop-number.last) (take_all c.loop-number.number-index c.args.numbers.now c.loop-number-test.false) in
    numbers-end p l c.args.numbers.now (take c.loop-number.end c.loop-number.bytes) (take c.place_number.result c.place_number.new.bytes) c.loop-number.last
    (c.loop-number.invariant.numbers p l e ∙ all) c.place_number.ensures.number
