use Rattle.std.proofs.lemmas.List.Sorted.{IsPermutation-map}
use Rattle.kernel.proofs.Placed.{All-goes_first}
use Rattle.kernel.proofs.units.waiting_heap.take_first.Goals as goal

pub returns-in-Some-clause-taken : goal.returns-in-Some-clause-taken
returns-in-Some-clause-taken c = IsPermutation-map (λ r. r.0) _ _ c.in-Some.ensures.permutation

pub returns-in-Some-clause-first : goal.returns-in-Some-clause-first
returns-in-Some-clause-first c = All-goes_first c.in-Some.first _ (c.in-Some.ensures.heap_order c.requires.heap).1
