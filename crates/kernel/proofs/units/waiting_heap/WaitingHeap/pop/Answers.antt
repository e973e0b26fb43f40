use Rattle.std.proofs.lemmas.List.Sorted.{IsPermutation-append_left, IsPermutation-map}
use Rattle.kernel.specs.Placing.{at_start}
use Rattle.kernel.proofs.WaitingHeaps.{first-numbered}
use Rattle.kernel.proofs.units.waiting_heap.WaitingHeap.pop.Goals as goal

pub returns-in-Some-clause-taken : goal.returns-in-Some-clause-taken
returns-in-Some-clause-taken c = rw (← c.self.view_is, c.waiting.ensures) (IsPermutation-append_left _ _ _ (IsPermutation-map (λ r. at_start r.0) _ _ c.in-Some.ensures.permutation))

pub returns-in-Some-clause-first : goal.returns-in-Some-clause-first
returns-in-Some-clause-first c = rw (← c.self.view_is, c.waiting.ensures) (first-numbered c.in-Some.least _ _ (c.in-Some.ensures.heap_order c.self.invariant.0).1 c.self.invariant.2)
