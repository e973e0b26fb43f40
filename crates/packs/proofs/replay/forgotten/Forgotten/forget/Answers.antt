use Rattle.std.proofs.Common.{◌+◌, ◌-◌, ◌++◌, true, refl, sym, subst, ◌∙◌, drop, get_or}
use Rattle.std.proofs.lemmas.List.{drop_more, length-set, take_all}
use Rattle.packs.specs.Forgotten.{AreMarked, AreOwn, IsThere}
use Rattle.packs.proofs.ForgottenLemmas.{own-more, marked-more}
use Rattle.packs.proofs.replay.forgotten.Forgotten.forget.Goals as goal

pub loop-number-preserved : goal.loop-number-preserved
loop-number-preserved c =
    let inv = c.loop-number.invariant in
    let N = c.args.self.now.first in
    let marks = c.loop-number.self.marks.items in
    let numbers = c.args.numbers.now in
    let i = c.loop-number.number-index in
    let x = get_or numbers i 0 in
    let here : IsThere N marks x = subst (λ n. IsThere n marks x) inv.first (c.is_there.ensures.0 c.if-not-is_there.false) in
    let left = drop_more numbers i 0 c.loop-number-test.true in
    let step = own-more N x marks (drop (i + 1) numbers) here in
    rw inv.first record {
      own = (
        λ h. step.0 (subst (AreOwn N marks) left (inv.own.0 h)),
        λ h. inv.own.1 (subst (AreOwn N marks) (sym left) (step.1 h)),
      );
      marked = λ gone h. marked-more N i marks gone numbers c.loop-number-test.true here (inv.marked gone h);
      many = length-set marks (x - N - 1) true ∙ inv.many;
      first = refl;
    }

pub returns-clause-marked : goal.returns-clause-marked
returns-clause-marked c = λ _ gone h.
    let inv = c.loop-number.invariant in
    subst (λ xs. AreMarked c.args.self.now.first c.loop-number.self.marks.items (gone ++ xs)) (take_all c.loop-number.number-index c.args.numbers.now c.loop-number-test.false) (inv.marked gone h)
