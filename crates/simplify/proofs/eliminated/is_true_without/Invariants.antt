use Rattle.std.proofs.Common.{◌≡◌, drop}
use Rattle.theory.specs.Literals.{positive, without}
use Rattle.theory.specs.Truth.{value, is_true_clause}
use Rattle.simplify.proofs.eliminated.is_true_without.Given as goal

-- what is left decides
abbrev pub invariant-loop-lit : goal.invariant-loop-lit
invariant-loop-lit l = is_true_clause (value l.values) (without (drop l.lit-index l.clause) (positive l.variable)) ≡ is_true_clause (value l.values) (without l.clause (positive l.variable))
