use Rattle.std.proofs.Common.{◌≡◌, drop}
use Rattle.theory.specs.Literals.{has_var}
use Rattle.test_samples.proofs.cubes.has_var.Given as goal

-- what is left gives the answer
abbrev pub invariant-loop-lit : goal.invariant-loop-lit
invariant-loop-lit l = has_var (drop l.lit-index l.lits) l.var ≡ has_var l.lits l.var
