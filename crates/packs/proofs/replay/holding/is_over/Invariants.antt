use Rattle.std.proofs.Common.{take}
use Rattle.theory.specs.Truth.{IsOver}
use Rattle.packs.proofs.replay.holding.is_over.Given as goal

-- the literals so far are over the variables
abbrev pub invariant-loop-lit : goal.invariant-loop-lit
invariant-loop-lit l = IsOver l.vars (take l.lit-index l.clause)
