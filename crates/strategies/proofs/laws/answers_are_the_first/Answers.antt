use Rattle.strategies.proofs.StrategyTexts.{answer-first, decided-written}
use Rattle.strategies.proofs.laws.answers_are_the_first.Goals as goal

pub returns : goal.returns
returns c = record { answer = answer-first; texts = decided-written }
