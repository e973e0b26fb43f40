use Rattle.std.proofs.Common.{◌≡◌, ◌++◌, take}
use Rattle.theory.specs.Pure.{unit_clauses}
use Rattle.strategies.proofs.lowering.question.add_units.Given as goal

-- the clauses of the literals so far
abbrev pub invariant-loop-lit : goal.invariant-loop-lit
invariant-loop-lit l = l.session.formula.clauses ≡ l.initial.session.formula.clauses ++ unit_clauses (take l.lit-index l.lits)
