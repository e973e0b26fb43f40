use Rattle.std.proofs.Common.{◌≡◌, ◌<◌, ◌/◌, length, drop}
use Rattle.heuristics.specs.Tournaments.{IsPlayedBut}
use Rattle.heuristics.proofs.tournament.replay.Given as goal

-- only the match above the node may be wrong
abbrev pub invariant-loop-node : goal.invariant-loop-node
invariant-loop-node l = record {
  played : IsPlayedBut l.scores l.winners (l.node / 2);
  inside : l.node < length l.winners;
  leaves : drop (length l.scores) l.winners ≡ drop (length l.scores) l.fn.winners;
}

abbrev pub decreases-loop-node : goal.decreases-loop-node
decreases-loop-node l = l.node
