use Rattle.std.proofs.Common.{◌≡◌, ◌+◌, ◌∙◌, ◌-◌, List, length, take, get_or, set, ap, subst, sym, arith}
use Rattle.std.specs.Prelude.{insert}
use Rattle.std.specs.List.Sorted.{IsPermutation}
use Rattle.std.proofs.lemmas.List.{length_push}
use Rattle.kernel.specs.declared.units.numbered.Numbered.{Numbered}
use Rattle.kernel.specs.Placing.{AreFalling}
use Rattle.kernel.proofs.NumberStacks.{insert-set, insert-permutes, AreFalling-insert, whole-last, front-is, gap-moved, gap-lesser, gap-before}
use Rattle.kernel.proofs.units.number_stack.settle.Goals as goal
use Rattle.kernel.proofs.units.number_stack.settle.Goals.{then-loop-at-test+else-items-at, else-loop-at-test}

pub loop-at-preserved : goal.loop-at-preserved
loop-at-preserved c =
    let i = c.loop-at.invariant in
    let front = take (length c.args.items.now - 1) c.args.items.now in
    record {
      within = omega (arith, i.within);
      items = (
        get_or front (c.loop-at.at - 1) c.index-items-at-in-loop-at-2.result,
        gap-moved front c.loop-at.items c.loop-at.at i.items.0 i.items.1 c.loop-at-test.true i.within c.index-items-at-in-loop-at-2.result c.index-items-at-in-loop-at-2.is,
      );
      lesser = gap-lesser front c.loop-at.items c.loop-at.at i.items.0 i.items.1 c.loop-at-test.true i.within c.index-items-at-in-loop-at.result c.index-items-at.result c.if-items-at.true i.lesser;
    }

-- the last one in its place
settled : (c : goal.Left-loop-at) → set c.loop-at.items c.loop-at.at c.index-items-at.result ≡ insert (take (length c.args.items.now - 1) c.args.items.now) c.loop-at.at c.index-items-at.result
settled c =
    let i = c.loop-at.invariant in
    ap (λ (xs : List Numbered). set xs c.loop-at.at c.index-items-at.result) i.items.1 ∙ insert-set (take (length c.args.items.now - 1) c.args.items.now) c.loop-at.at i.items.0 c.index-items-at.result i.within

pub returns-clause-permutes : goal.returns-clause-permutes
returns-clause-permutes c =
    let front = take (length c.args.items.now - 1) c.args.items.now in
    let long : length c.args.items.now ≡ length c.requires.0 + 1 = ap length c.requires.2 ∙ length_push c.requires.0 c.requires.1 in
    rw (settled c) (subst (λ xs. IsPermutation xs (insert front c.loop-at.at c.index-items-at.result)) (sym (whole-last c.args.items.now c.index-items-at.result (omega (arith, long)) c.index-items-at.is))
    (insert-permutes front c.loop-at.at c.index-items-at.result))

pub returns-clause-falling : goal.returns-clause-falling
returns-clause-falling c =
    let i = c.loop-at.invariant in
    let front = take (length c.args.items.now - 1) c.args.items.now in
    let falling : AreFalling front = subst AreFalling (sym (front-is c.args.items.now c.requires.0 c.requires.1 c.requires.2)) c.requires.3 in
    rw (settled c) (AreFalling-insert front c.loop-at.at c.index-items-at.result falling i.within i.lesser (λ a e. elim c.loop-at-test.branch [
      | then-loop-at-test+else-items-at w ↦ gap-before front c.loop-at.items c.loop-at.at i.items.0 i.items.1 w.loop-at-test.true i.within w.index-items-at-in-loop-at.result c.index-items-at.result w.if-items-at.false a e
      | else-loop-at-test w ↦ absurd (omega (arith, w.loop-at-test.false, e))
    ]))
