use Rattle.std.proofs.Common.{◌≡◌, ℕ, ◌<◌, ◌≤◌, length, slice_index}
use Rattle.theory.specs.Proofs.{renumbered}
use Rattle.join.proofs.line.renumber.Given as goal

-- those so far are renumbered
abbrev pub invariant-loop-index : goal.invariant-loop-index
invariant-loop-index l = record {
  done : (k : ℕ) → k < l.index → slice_index l.numbers.items k ≡ renumbered l.clauses l.first (slice_index l.initial.numbers.items k);
  rest : (k : ℕ) → l.index ≤ k → slice_index l.numbers.items k ≡ slice_index l.initial.numbers.items k;
  long : length l.numbers.items ≡ length l.initial.numbers.items;
}
