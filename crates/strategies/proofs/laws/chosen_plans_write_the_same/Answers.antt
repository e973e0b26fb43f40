use Rattle.strategies.proofs.StrategyTexts.{chosen-written, written-chosen}
use Rattle.strategies.proofs.laws.chosen_plans_write_the_same.Goals as goal

pub returns : goal.returns
returns c = λ L bytes s F plan p a reads chosen. (chosen-written L bytes s F plan p a reads chosen, written-chosen L bytes s F plan p a reads chosen)
