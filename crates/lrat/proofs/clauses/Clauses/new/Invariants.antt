use Rattle.lrat.proofs.FormulaClauses.{AreTaken}
use Rattle.lrat.proofs.clauses.Clauses.new.Given as goal

-- the last clauses are there
abbrev pub invariant-loop-done : goal.invariant-loop-done
invariant-loop-done l = AreTaken l.formula.vars l.first l.done l.formula.clauses l.lits.items l.heads.items
