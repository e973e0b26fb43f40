use Rattle.strategies.proofs.OneStrategy.{IsChosen-unique}
use Rattle.strategies.proofs.StrategyTexts.{IsWrittenBy-one, IsWritten-alone, alone-IsWritten}
use Rattle.strategies.proofs.laws.strategies_write_the_same.Goals as goal

pub returns : goal.returns
returns c = record {
  plan = IsChosen-unique;
  texts = IsWrittenBy-one;
  alone = λ L bytes plan p a. (IsWritten-alone L bytes plan p a, alone-IsWritten L bytes plan p a);
}
