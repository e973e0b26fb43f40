use Rattle.std.proofs.Common.{◌≡◌, ◌+◌, Ok, IsOk, ◌++◌, ◌∷◌, [], take, ap, sym, ◌∙◌}
use Rattle.std.proofs.lemmas.List.{take_more, take_all}
use Rattle.spread.specs.declared.conquering.Ended.TheVariants.{Done}
use Rattle.spread.proofs.HandLemmas.{iff-more, iff-same}
use Rattle.spread.proofs.hands.end_of.Goals as goal

pub loop-end-preserved : goal.loop-end-preserved
loop-end-preserved g c =
    let ends = c.args.ends.now in
    let at = c.loop-end.end-index in
    let item = c.end-item.result in
    let longer : take (at + 1) ends ≡ take at ends ++ item ∷ [] = take_more ends at item c.loop-end-test.true ∙ sym (ap (λ w. take at ends ++ w ∷ []) c.end-item.is) in
    record {
      ok = iff-more (λ w. IsOk w.ended) (IsOk c.loop-end.all) (IsOk c.end_of_both-all.result) (take at ends) (take (at + 1) ends) item c.end_of_both-all.ensures.ok c.loop-end.invariant.ok longer;
      done = iff-more (λ w. w.ended ≡ Ok Done) (c.loop-end.all ≡ Ok Done) (c.end_of_both-all.result ≡ Ok Done) (take at ends) (take (at + 1) ends) item c.end_of_both-all.ensures.done c.loop-end.invariant.done longer;
    }

pub returns-clause-ok : goal.returns-clause-ok
returns-clause-ok g c =
    let ends = c.args.ends.now in
    iff-same (λ w. IsOk w.ended) (IsOk c.loop-end.all) (take c.loop-end.end-index ends) ends (take_all c.loop-end.end-index ends c.loop-end-test.false) c.loop-end.invariant.ok

pub returns-clause-done : goal.returns-clause-done
returns-clause-done g c =
    let ends = c.args.ends.now in
    iff-same (λ w. w.ended ≡ Ok Done) (c.loop-end.all ≡ Ok Done) (take c.loop-end.end-index ends) ends (take_all c.loop-end.end-index ends c.loop-end-test.false) c.loop-end.invariant.done
