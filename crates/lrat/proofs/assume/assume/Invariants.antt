use Rattle.std.proofs.Common.{◌≡◌, take}
use Rattle.lrat.specs.Assumed.{IsAssumed}
use Rattle.lrat.specs.Held.{Extends}
use Rattle.lrat.proofs.assume.assume.Given as goal

-- the negations of the literals so far are held true
abbrev pub invariant-loop-lit : goal.invariant-loop-lit
invariant-loop-lit l = record {
  assumed : IsAssumed l.fn.held.literals l.pivot (take l.lit-index l.clause) l.held.literals;
  extends : Extends l.fn.held.literals l.held.literals;
  vars : l.held.vars ≡ l.fn.held.vars;
}
