use Rattle.std.proofs.Common.{◌≡◌, drop}
use Rattle.lrat_text.specs.LineMachine.{has_line_feed}
use Rattle.lrat_text.proofs.read.has_line_feed.Given as goal

-- the bytes that are left give the answer
abbrev pub invariant-loop-byte : goal.invariant-loop-byte
invariant-loop-byte l = has_line_feed (drop l.byte-index l.bytes) ≡ has_line_feed l.bytes
