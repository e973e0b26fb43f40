use Rattle.std.proofs.Common.{◌≡◌, ◌<◌, ◌≤◌, ◌-◌, [], length, drop}
use Rattle.lines.specs.Rows.{row, with_bytes, clause_part}
use Rattle.lines.proofs.reader.read_clause.Given as goal

-- what the literals so far leave to be read
abbrev pub invariant-literals : goal.invariant-literals
invariant-literals l = (l.at ≤ l.end) × (l.end < length l.bytes) × (row (drop l.at l.bytes) ≡ with_bytes (clause_part [] l.clause.items l.last) (drop l.end l.bytes))

abbrev pub decreases-literals : goal.decreases-literals
decreases-literals l = length l.bytes - l.end
