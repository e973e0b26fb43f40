use Rattle.heuristics.proofs.GainsAtOnce.{AreNoted}
use Rattle.heuristics.proofs.scores.note_first_gains.Given as goal

-- those so far are noted
abbrev pub invariant-loop-variable : goal.invariant-loop-variable
invariant-loop-variable l = AreNoted l.scores l.gained.items l.seen l.variable-index
