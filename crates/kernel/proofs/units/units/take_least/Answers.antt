use Rattle.std.proofs.lemmas.List.Sorted.{IsPermutation-map}
use Rattle.kernel.proofs.UnitLemmas.{All-not_below}
use Rattle.kernel.proofs.units.units.take_least.Goals as goal

pub returns-in-Some-clause-taken : goal.returns-in-Some-clause-taken
returns-in-Some-clause-taken c = IsPermutation-map (λ r. r.0) _ _ c.in-Some.ensures.permutation

pub returns-in-Some-clause-least : goal.returns-in-Some-clause-least
returns-in-Some-clause-least c = All-not_below _ _ (c.in-Some.ensures.heap_order c.requires.heap).1
