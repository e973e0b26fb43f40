use Rattle.std.proofs.Common.{ap, sym, ◌∙◌, arith, take, get_or}
use Rattle.std.proofs.lemmas.List.{take_more, take_all}
use Rattle.lines.specs.Rows.{listed}
use Rattle.lines.proofs.LineLemmas.{front-front, numbers-more, numbers-end}
use Rattle.lines.proofs.line.push_numbers.Goals as goal

pub loop-number-preserved : goal.loop-number-preserved
loop-number-preserved c =
    let at = c.loop-number.number-index in
    let xs = c.args.numbers.now in
    let old = c.loop-number.bytes.items in
    let new = c.push_number.new.bytes.items in (
      front-front c.args.bytes.now.items old new c.loop-number.invariant.0 c.in_ok-push_number.ensures.front,
      omega (arith, c.if-number-gt-MAX_HINT.false),
      λ p l e. numbers-more p l (take at xs) old new c.loop-number.last c.hint_number.result (get_or xs at 0) c.hint_number.ensures.some
          c.hint_number.ensures.hint (c.loop-number.invariant.2 p l e) c.in_ok-push_number.ensures.number
          ∙ ap (λ x. listed p.section p x (get_or xs at 0)) (sym (take_more xs at 0 c.loop-number-test.true)),
    )

pub returns-clause-numbers : goal.returns-clause-numbers
returns-clause-numbers c = λ p l e.
    let all = ap (λ x. listed p.section p x c.loop-number.last) (take_all c.loop-number.number-index c.args.numbers.now c.loop-number-test.false) in
    numbers-end p l c.args.numbers.now c.loop-number.bytes.items c.push_number-2.new.bytes.items c.loop-number.last (c.loop-number.invariant.2 p l e ∙ all) c.in_ok-push_number-2.ensures.number
