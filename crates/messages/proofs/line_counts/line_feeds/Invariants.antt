use Rattle.std.proofs.Common.{◌≡◌, ◌≤◌, ◌+◌, ◌-◌, length, drop}
use Rattle.messages.specs.Lines.{line_feeds}
use Rattle.messages.proofs.line_counts.line_feeds.Given as goal

-- the line feeds before a place, and no more than there are bytes
abbrev pub invariant-loop-at : goal.invariant-loop-at
invariant-loop-at l = record {
  counted : l.count + line_feeds (drop l.at l.piece) ≡ line_feeds l.piece;
  few : l.count ≤ l.at;
  within : l.at ≤ length l.piece;
}

abbrev pub decreases-loop-at : goal.decreases-loop-at
decreases-loop-at l = length l.piece - l.at
