use Rattle.std.proofs.Common.{◌≡◌, List, take}
use Rattle.theory.specs.Literals.{Literal}
use Rattle.lrat.specs.Held.{Extends}
use Rattle.packs.specs.Known.{IsHolding}
use Rattle.packs.proofs.HoldingLemmas.{Denies}
use Rattle.packs.proofs.replay.holding.negate.Given as goal

-- the negations of the literals so far are held
abbrev pub invariant-loop-lit : goal.invariant-loop-lit
invariant-loop-lit l = record {
  denied : (Q : List Literal) → IsHolding Q l.fn.held.literals → Denies (take l.lit-index l.clause) Q l.held.literals;
  extends : Extends l.fn.held.literals l.held.literals;
  vars : l.held.vars ≡ l.fn.held.vars;
}
