use Rattle.std.proofs.Common.{rules}
use Rattle.std.proofs.lemmas.List.Sorted.{answers_always}
use Rattle.theory.specs.Forgetting.{goes_before}
use Rattle.heuristics.proofs.CandidateOrder.{order}
use Rattle.heuristics.proofs.forgetting.sort.Goals as goal

pub returns-clause-sorted : goal.returns-clause-sorted
returns-clause-sorted c = c.sort_unstable_by.ensures.sorted goes_before order (answers_always _ _ _ (λ f a r g called. search rules))
