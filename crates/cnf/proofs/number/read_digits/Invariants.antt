use Rattle.std.proofs.Common.{◌≡◌, ◌-◌, ◌≤◌, true, min, length}
use Rattle.std.specs.List.{slice_range}
use Rattle.std.specs.Str.{all_ascii_digits}
use Rattle.std.specs.Str.Parse.{digits_value}
use Rattle.cnf.proofs.number.read_digits.Given as goal

-- digits so far, and their value
abbrev pub invariant-loop-end : goal.invariant-loop-end
invariant-loop-end l =
    (l.from ≤ l.end) × (l.end ≤ length l.bytes) × (all_ascii_digits (slice_range l.bytes l.from l.end) ≡ true)
    × (l.size ≡ min 10000000000 (digits_value 10 (slice_range l.bytes l.from l.end)))

abbrev pub decreases-loop-end : goal.decreases-loop-end
decreases-loop-end l = length l.bytes - l.end
