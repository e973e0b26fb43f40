use Rattle.std.proofs.Common.{◌≡◌, true, take}
use Rattle.theory.specs.Literals.{Literal, has, has_var}
use Rattle.theory.specs.Trails.{literals}
use Rattle.kernel.proofs.watches.attach.free_literal.Given as goal

-- the literals so far have a value
abbrev pub invariant-loop-lit : goal.invariant-loop-lit
invariant-loop-lit l = (x : Literal) → has (take l.lit-index l.clause) x ≡ true → has_var (literals l.trail.entries) x.var ≡ true
