use Rattle.kernel.proofs.Placed.{All-goes_first}
use Rattle.kernel.proofs.units.waiting_heap.first_placed.Goals as goal

pub returns-in-Some-clause-first : goal.returns-in-Some-clause-first
returns-in-Some-clause-first c = All-goes_first c.in-Some.first.now _ (c.in-Some.ensures.greatest c.requires.heap)
