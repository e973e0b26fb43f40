use Rattle.std.proofs.Common.{◌≡◌, true, take}
use Rattle.theory.specs.Literals.{Literal, has, negated}
use Rattle.theory.specs.Trails.{literals}
use Rattle.kernel.proofs.units.last_false.open_literal.Given as goal

-- the literals so far are false
abbrev pub invariant-loop-lit : goal.invariant-loop-lit
invariant-loop-lit l = (x : Literal) → has (take l.lit-index l.clause) x ≡ true → has (literals l.trail.entries) (negated x) ≡ true
