use Rattle.kernel.proofs.WaitingHeaps.{first-numbered}
use Rattle.kernel.proofs.units.waiting_heap.WaitingHeap.first.Goals as goal

pub returns-in-Some-clause-first : goal.returns-in-Some-clause-first
returns-in-Some-clause-first c = rw (← c.self.view_is, c.waiting.ensures) (first-numbered c.in-Some.least.now _ _ (c.in-Some.ensures.greatest c.self.invariant.0) c.self.invariant.2)
