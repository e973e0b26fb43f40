use Rattle.std.proofs.Common.{ℕ, ◌-◌, ◌<◌, ◌≤◌, length, slice_index}
use Rattle.trail.proofs.trail.first_without_entry.Given as goal

-- each number so far has an entry
abbrev pub invariant-loop-var : goal.invariant-loop-var
invariant-loop-var l = record {
  low : l.from ≤ l.var;
  high : l.var ≤ length l.places;
  before : (v : ℕ) → l.from ≤ v → v < l.var → 1 ≤ slice_index l.places v;
}

abbrev pub decreases-loop-var : goal.decreases-loop-var
decreases-loop-var l = length l.places - l.var
