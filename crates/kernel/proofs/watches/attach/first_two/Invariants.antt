use Rattle.std.proofs.Common.{◌≡◌, true, take}
use Rattle.theory.specs.Literals.{Literal, has}
use Rattle.kernel.proofs.watches.attach.first_two.Given as goal

-- the literals so far are the first one
abbrev pub invariant-loop-lit : goal.invariant-loop-lit
invariant-loop-lit l = (x : Literal) → has (take l.lit-index l.clause) x ≡ true → x ≡ l.first
