use Rattle.std.proofs.Common.{◌≡◌, ℕ, ◌<◌, ◌≤◌, length, drop}
use Rattle.heuristics.specs.Tournaments.{IsField, IsMatch}
use Rattle.heuristics.proofs.tournament.play_all.Given as goal

-- the matches from the node on are played
abbrev pub invariant-loop-node : goal.invariant-loop-node
invariant-loop-node l = record {
  field : IsField l.scores l.winners;
  most : l.node ≤ length l.scores;
  matches : (i : ℕ) → 1 ≤ i → l.node ≤ i → i < length l.scores → IsMatch l.scores l.winners i;
  leaves : drop (length l.scores) l.winners ≡ drop (length l.scores) l.fn.winners;
}

abbrev pub decreases-loop-node : goal.decreases-loop-node
decreases-loop-node l = l.node
