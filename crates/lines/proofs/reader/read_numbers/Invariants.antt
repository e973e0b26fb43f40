use Rattle.std.proofs.Common.{◌<◌, ◌≤◌, ◌-◌, length}
use Rattle.lines.proofs.ReadingLemmas.{NumbersLeft}
use Rattle.lines.proofs.reader.read_numbers.Given as goal

abbrev pub invariant-numbers : goal.invariant-numbers
invariant-numbers l = (l.at ≤ l.end) × (l.end < length l.bytes) × NumbersLeft l.bytes l.at l.end l.numbers.items l.last

abbrev pub decreases-numbers : goal.decreases-numbers
decreases-numbers l = length l.bytes - l.end
