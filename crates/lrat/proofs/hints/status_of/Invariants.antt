use Rattle.std.proofs.Common.{take}
use Rattle.theory.proofs.literals.ClauseWalks.{IsMet}
use Rattle.lrat.proofs.hints.status_of.Given as goal

-- the literals so far are false but for the free one
abbrev pub invariant-loop-lit : goal.invariant-loop-lit
invariant-loop-lit l = IsMet l.held.literals (take l.lit-index l.clause) l.free
