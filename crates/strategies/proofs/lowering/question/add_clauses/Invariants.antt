use Rattle.std.proofs.Common.{◌≡◌, take}
use Rattle.strategies.proofs.lowering.question.add_clauses.Given as goal

-- the clauses so far
abbrev pub invariant-loop-place : goal.invariant-loop-place
invariant-loop-place l = l.session.formula.clauses ≡ take l.place l.formula.clauses
