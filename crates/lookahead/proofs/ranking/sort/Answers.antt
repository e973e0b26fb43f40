use Rattle.std.proofs.Common.{rules}
use Rattle.std.proofs.lemmas.List.Sorted.{answers_always}
use Rattle.lookahead.specs.Rankings.{goes_before}
use Rattle.lookahead.proofs.RankingOrder.{order}
use Rattle.lookahead.proofs.ranking.sort.Goals as goal

pub returns-clause-sorted : goal.returns-clause-sorted
returns-clause-sorted c = c.sort_unstable_by.ensures.sorted goes_before order (answers_always _ _ _ (λ f a r g called. search rules))
