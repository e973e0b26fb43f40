use Rattle.std.proofs.Common.{◌≡◌, ◌+◌, ◌*◌, ℕ, ◌<◌, length, slice_index}
use Rattle.heuristics.proofs.scores.leaves_of.Given as goal

-- the leaves so far
abbrev pub invariant-loop-variable : goal.invariant-loop-variable
invariant-loop-variable l = record {
  long : length l.winners.items ≡ 2 * l.count;
  before : (k : ℕ) → k < l.count → slice_index l.winners.items k ≡ 0;
  leaves : (v : ℕ) → v < l.variable → slice_index l.winners.items (l.count + v) ≡ v;
}
