use Rattle.std.proofs.Common.{◌≡◌, drop}
use Rattle.theory.specs.Literals.{has}
use Rattle.lrat.proofs.groups.has.Given as goal

-- the literals that are left give the answer
abbrev pub invariant-loop-other : goal.invariant-loop-other
invariant-loop-other l = has (drop l.other-index l.clause) l.lit ≡ has l.clause l.lit
