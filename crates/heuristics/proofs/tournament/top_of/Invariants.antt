use Rattle.std.proofs.Common.{◌<◌, length}
use Rattle.heuristics.proofs.RaisedScores.{IsBelowTops}
use Rattle.heuristics.proofs.tournament.top_of.Given as goal

-- the highest node is the node or above it
abbrev pub invariant-loop-node : goal.invariant-loop-node
invariant-loop-node l = record {
  below : IsBelowTops l.winners l.variable l.node;
  inside : l.node < length l.winners;
}

abbrev pub decreases-loop-node : goal.decreases-loop-node
decreases-loop-node l = l.node
