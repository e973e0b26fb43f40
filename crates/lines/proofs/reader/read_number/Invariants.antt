use Rattle.std.proofs.Common.{◌≤◌, ◌-◌, length}
use Rattle.lines.proofs.ReadingLemmas.{HasRead}
use Rattle.lines.proofs.reader.read_number.Given as goal

abbrev pub invariant-loop-end : goal.invariant-loop-end
invariant-loop-end l = (l.at ≤ l.end) × (l.end ≤ length l.bytes) × HasRead l.bytes l.at l.end l.value

abbrev pub decreases-loop-end : goal.decreases-loop-end
decreases-loop-end l = length l.bytes - l.end
