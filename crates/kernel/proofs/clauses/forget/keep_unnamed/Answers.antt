use Rattle.std.proofs.Common.{◌≡◌, ◌<◌, ◌∙◌, length, ap, sym, arith}
use Rattle.std.proofs.Common.{not}
use Rattle.std.proofs.lemmas.List.Filters.{FiltersInPlace-more_set, FiltersInPlace-more_no}
use Rattle.kernel.specs.declared.watches.watch.Watch.{Watch}
use Rattle.kernel.specs.Forgetting.{names}
use Rattle.kernel.proofs.clauses.forget.keep_unnamed.Goals.{then-not-has, else-not-has}
use Rattle.kernel.proofs.clauses.forget.keep_unnamed.Goals as goal

pub loop-place-preserved : goal.loop-place-preserved
loop-place-preserved c =
    let asked : c.has.result ≡ names c.args.named.now c.index-list-place.result.clause = c.has.ensures ∙ ap (λ (e : Watch). names c.args.named.now e.clause) c.watch.ensures.same in
    let inside : c.loop-place.place < length c.loop-place.list = let long = c.loop-place.invariant.long in omega (arith, long, c.loop-place-test.true) in
    elim c.if-not-has.branch [
      | then-not-has w ↦ rw (w.list-is, w.end-is) (FiltersInPlace-more_set c.loop-place.invariant inside (ap not (sym asked ∙ w.if-not-has.true)) c.index-list-place.is)
      | else-not-has w ↦ rw (w.list-is, w.end-is) (FiltersInPlace-more_no c.loop-place.invariant inside (ap not (sym asked ∙ w.if-not-has.false)) c.index-list-place.is)
    ]
