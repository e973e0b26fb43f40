use Rattle.theory.proofs.searching.Rules.{IsRule-by_number, IsRule-by_place}
use Rattle.theory.proofs.rules_give_units.Goals as goal

pub returns : goal.returns
returns c = record { number = IsRule-by_number; place = IsRule-by_place }
