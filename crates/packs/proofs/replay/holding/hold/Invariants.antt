use Rattle.std.proofs.Common.{◌≡◌, take}
use Rattle.packs.specs.Known.{IsHolding}
use Rattle.packs.proofs.replay.holding.hold.Given as goal

-- the literals so far are held
abbrev pub invariant-loop-lit : goal.invariant-loop-lit
invariant-loop-lit l = record {
  held : IsHolding (take l.lit-index l.cube) l.held.literals;
  vars : l.held.vars ≡ l.fn.held.vars;
}
