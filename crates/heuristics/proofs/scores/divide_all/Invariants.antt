use Rattle.std.proofs.Common.{◌≡◌, ◌/◌, ℕ, ◌<◌, ◌≤◌, slice_index}
use Rattle.heuristics.proofs.scores.divide_all.Given as goal

-- those so far are divided
abbrev pub invariant-loop-score : goal.invariant-loop-score
invariant-loop-score l = record {
  done : (k : ℕ) → k < l.score-index → slice_index l.scores k ≡ slice_index l.fn.scores k / l.divisor;
  rest : (k : ℕ) → l.score-index ≤ k → slice_index l.scores k ≡ slice_index l.fn.scores k;
}
