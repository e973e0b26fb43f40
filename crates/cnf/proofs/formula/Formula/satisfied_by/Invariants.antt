use Rattle.std.proofs.Common.{◌≡◌, drop}
use Rattle.theory.specs.Truth.{value, are_true}
use Rattle.cnf.proofs.formula.Formula.satisfied_by.Given as goal

-- the clauses that are left give the answer
abbrev pub invariant-loop-place : goal.invariant-loop-place
invariant-loop-place l = are_true (value l.values) (drop l.place l.self.clauses) ≡ are_true (value l.values) l.self.clauses
