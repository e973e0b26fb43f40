use Rattle.std.proofs.Common.{arith}
use Rattle.lookahead.proofs.occurrences.count_clause.Goals as goal

pub count-requires-clause-number : goal.count-requires-clause-number
count-requires-clause-number c = let some = c.requires.before 0 in omega (arith, some)
