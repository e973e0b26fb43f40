use Rattle.theory.proofs.simplifying.FewClauses.{try-few, simplification-few}
use Rattle.theory.proofs.simplified.clauses_stay_few.Goals as goal

pub returns : goal.returns
returns c = record { try_one = try-few; whole = simplification-few }
