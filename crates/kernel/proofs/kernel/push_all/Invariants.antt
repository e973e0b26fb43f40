use Rattle.std.proofs.Common.{◌≡◌, ◌++◌, take}
use Rattle.kernel.proofs.kernel.push_all.Given as goal

-- the clauses so far are there
abbrev pub invariant-loop-place : goal.invariant-loop-place
invariant-loop-place l = l.clauses ≡ l.initial.clauses ++ take l.place l.formula.clauses
