use Rattle.std.proofs.Common.{◌≡◌, ◌≤◌, ◌+◌, drop}
use Rattle.messages.specs.Lines.{line_feeds}
use Rattle.messages.proofs.line_counts.few_line_feeds.Given as goal

-- the line feeds so far, and no more than there are bytes
abbrev pub invariant-loop-byte : goal.invariant-loop-byte
invariant-loop-byte l = record {
  counted : l.count + line_feeds (drop l.byte-index l.piece) ≡ line_feeds l.piece;
  few : l.count ≤ l.byte-index;
}
