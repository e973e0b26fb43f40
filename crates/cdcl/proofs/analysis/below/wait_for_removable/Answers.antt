use Rattle.std.proofs.Common.{◌≡◌, ◌<◌, ◌∙◌, ◌++◌, ◌∷◌, [], ℕ, List, true, length, take, get_or, ap, sym, subst, arith}
use Rattle.std.proofs.lemmas.List.{take_more, take_all}
use Rattle.cdcl.specs.Numbers.{is_one_of}
use Rattle.cdcl.proofs.QuestionLemmas.{one_of-at}
use Rattle.cdcl.proofs.AwaitedPlaces.{WaitFor, WaitFor-more, once-fresh, IsSet-awaited, known-variable}
use Rattle.cdcl.proofs.analysis.below.wait_for_removable.Goals as goal

pub wait_for-requires : goal.wait_for-requires
wait_for-requires c =
    let numbers = c.args.removing.now.removable.numbers in
    let at = c.loop-at.at in
    let v = get_or c.list-removable.result.now at 0 in
    let there : is_one_of numbers v ≡ true = subst (λ (xs : List ℕ). is_one_of xs v ≡ true) c.list-removable.ensures.numbers (one_of-at c.list-removable.result.now at c.loop-at-test.true) in
    let most = known-variable c.args.kernel.now c.requires.known.0 c.args.removing.now v c.trail-trail.ensures.over c.requires.known.2 there in
    let long = c.requires.known.1.is.long in
    rw c.loop-at.invariant.marked (record { inside = omega (arith, most, long) })

pub loop-at-preserved : goal.loop-at-preserved
loop-at-preserved c =
    let numbers = c.args.removing.now.removable.numbers in
    let at = c.loop-at.at in
    let v = get_or c.list-removable.result.now at 0 in
    let listed = c.list-removable.ensures.numbers in
    let test = c.loop-at-test.true in
    let long = ap length listed in
    let less : at < length numbers = omega (arith, long, test) in
    let value : v ≡ get_or numbers at 0 = ap (λ (xs : List ℕ). get_or xs at 0) listed in
    let inv = c.loop-at.invariant in
    let same = c.wait_for.ensures.same in
    record {
      marked = same.0 ∙ inv.marked;
      current = same.1 ∙ inv.current;
      seen = same.2 ∙ inv.seen;
      waits = subst (λ (xs : List ℕ). WaitFor c.args.kernel.now.trail c.args.marks.now.marked.items xs c.args.marks.now.pending c.wait_for.new.marks.pending) (ap (λ x. take at numbers ++ x ∷ []) value ∙ sym (take_more numbers at 0 less))
          (WaitFor-more c.args.kernel.now.trail c.args.marks.now.marked.items (take at numbers) v c.args.marks.now.pending c.loop-at.marks.pending c.wait_for.new.marks.pending
          (ap (is_one_of (take at numbers)) value ∙ once-fresh numbers at 0 (rw listed at c.list-removable.ensures.once) less) inv.waits (rw inv.marked at c.in_ok-wait_for.ensures.waits));
    }

pub returns : goal.returns
returns c = record {
  set = λ S is known all.
      let numbers = c.args.removing.now.removable.numbers in
      let inv = c.loop-at.invariant in
      let listed = c.list-removable.ensures.numbers in
      let long = ap length listed in
      let end = c.loop-at-test.false in
      IsSet-awaited c.args.kernel.now S c.args.removing.now c.args.marks.now c.loop-at.marks c.trail-trail.ensures.lawful c.requires.above is known all inv.marked inv.current inv.seen
      (subst (λ (xs : List ℕ). WaitFor c.args.kernel.now.trail c.args.marks.now.marked.items xs c.args.marks.now.pending c.loop-at.marks.pending) (take_all c.loop-at.at numbers (omega (arith, long, end))) inv.waits);
}
