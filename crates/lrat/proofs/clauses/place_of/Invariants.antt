use Rattle.std.proofs.Common.{◌-◌, ◌≡◌, ℕ, ◌<◌, ◌≤◌, Some, length, slice_get}
use Rattle.lrat.specs.declared.clauses.Head.{Head}
use Rattle.lrat.proofs.clauses.place_of.Given as goal

-- what is left has the number, if any added clause has
abbrev pub invariant-loop-low : goal.invariant-loop-low
invariant-loop-low l = record {
  from : l.first ≤ l.low;
  to : l.high ≤ length l.heads;
  ordered : l.low ≤ l.high;
  below : (i : ℕ) (h : Head) → slice_get l.heads i ≡ Some h → l.first ≤ i → i < l.low → h.id < l.id;
  beyond : (i : ℕ) (h : Head) → slice_get l.heads i ≡ Some h → l.high ≤ i → l.id < h.id;
}

abbrev pub decreases-loop-low : goal.decreases-loop-low
decreases-loop-low l = l.high - l.low
