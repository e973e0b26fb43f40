use Rattle.std.proofs.Common.{◌≡◌, ◌∙◌, ◌≤◌, ◌-◌, length, take, set, sym, subst, arith}
use Rattle.std.proofs.lemmas.List.{take_all, length-set}
use Rattle.kernel.specs.declared.watches.watch.Watch.{Watch}
use Rattle.kernel.proofs.Cutting.{keeping-begins, keeping-drops, front-at, left, left-list}
use Rattle.kernel.proofs.watches.cut.keep_below.Goals as goal

pub loop-place-init : goal.loop-place-init
loop-place-init c =
    let whole : take (length c.args.list.now) c.args.list.now ≡ c.args.list.now = take_all (length c.args.list.now) c.args.list.now (let z : length c.args.list.now ≤ length c.args.list.now = omega arith in z) in
    record { keeping = rw whole (keeping-begins c.args.first c.args.list.now); within = omega arith; inside = omega arith }

pub loop-place-preserved : goal.loop-place-preserved
loop-place-preserved c =
    let i = c.loop-place.invariant in
    let at = front-at c.loop-place.list c.loop-place.end c.loop-place.place c.index-list-place.result c.loop-place-test.true i.inside c.index-list-place.is in
    let new : take (c.loop-place.end - 1) (set c.loop-place.list c.loop-place.place c.index-list-end.result) ≡ left c.loop-place.list (c.loop-place.end - 1) c.loop-place.place c.index-list-end.result =
    left-list c.loop-place.list c.loop-place.end c.loop-place.place c.index-list-end.result c.loop-place-test.true i.inside c.index-list-end.is in
    let out : c.args.first ≤ c.index-list-place.result.clause = subst (λ (e : Watch). c.args.first ≤ e.clause) (c.watch.ensures.same ∙ sym c.index-list-place.is) c.if-watch-first.false in
    record {
      keeping = rw new (keeping-drops c.args.first c.args.list.now c.loop-place.list c.loop-place.end c.loop-place.place c.index-list-place.result c.index-list-end.result c.loop-place-test.true i.inside at out i.keeping);
      within = omega (arith, c.loop-place-test.true);
      inside = omega (arith, i.inside, length-set c.loop-place.list c.loop-place.place c.index-list-end.result);
    }
