use Rattle.std.proofs.Common.{◌≡◌, ℕ, ◌+◌, length, take, slice_index}
use Rattle.simplify.specs.Tables.{times}
use Rattle.simplify.proofs.counting.count.Given as goal

-- the first literals are counted
abbrev pub invariant-loop-lit : goal.invariant-loop-lit
invariant-loop-lit l = record {
  long : length l.counts ≡ length l.fn.counts;
  counts : (j : ℕ) → slice_index l.counts j ≡ slice_index l.fn.counts j + times j (take l.lit-index l.clause);
}
