use Rattle.std.proofs.lemmas.List.Sorted.{IsPermutation-map}
use Rattle.kernel.proofs.UnitLemmas.{heaped-units}
use Rattle.kernel.proofs.WaitingHeaps.{is-at_start, numbered-more, placed-more}
use Rattle.kernel.proofs.units.waiting_heap.WaitingHeap.push.Goals as goal

pub invariant_of-self-in-Continue-branch-2 : goal.invariant_of-self-in-Continue-branch-2
invariant_of-self-in-Continue-branch-2 c =
    (c.self.invariant.0, c.in_ok-push-2.ensures.heap_order c.self.invariant.1, placed-more _ _ _ c.if-waiting-eq0.false c.in_ok-push-2.ensures.permutation c.self.invariant.2)

pub returns-in_ok-push : goal.returns-in_ok-push
returns-in_ok-push c = rw (← c.self.view_is) (numbered-more c.args.waiting _ _ _ _ (is-at_start c.args.waiting c.if-waiting-eq0.true) c.in_ok-push.ensures.permutation)

pub returns-in_ok-push-2 : goal.returns-in_ok-push-2
returns-in_ok-push-2 c = rw (← c.self.view_is) (heaped-units _ _ _ _ (IsPermutation-map (λ r. r.0) _ _ c.in_ok-push-2.ensures.permutation))
