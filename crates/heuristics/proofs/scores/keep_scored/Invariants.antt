use Rattle.heuristics.proofs.KeptGains.{AreSifted}
use Rattle.heuristics.proofs.scores.keep_scored.Given as goal

-- of those so far only those with a score stand in front
abbrev pub invariant-loop-place : goal.invariant-loop-place
invariant-loop-place l = AreSifted l.scores l.initial.gained.items l.gained.items l.kept l.place
