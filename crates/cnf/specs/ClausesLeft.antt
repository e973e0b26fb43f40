-- The clauses that are still to come.
use Rattle.std.specs.Prelude.{List, drop}
use Rattle.theory.specs.Literals.{Clause}
use Rattle.cnf.specs.declared.clause_iter.ClauseIter.{ClauseIter}

-- those from the next place on
abbrev pub clauses_left : ClauseIter → List Clause
clauses_left it = drop it.place it.formula.now.clauses
