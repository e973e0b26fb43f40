use Rattle.std.proofs.Common.{◌≡◌, true, drop}
use Rattle.theory.specs.Literals.{has}
use Rattle.kernel.proofs.clauses.arrange.find.Given as goal

-- the literal stands at the place or behind
abbrev pub invariant-loop-place : goal.invariant-loop-place
invariant-loop-place l = has (drop l.place l.lits) l.lit ≡ true
