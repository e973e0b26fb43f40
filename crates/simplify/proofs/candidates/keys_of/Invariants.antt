use Rattle.std.proofs.Common.{◌≡◌, ℕ, ◌+◌, ◌-◌, ◌≤◌, true, length, slice_index}
use Rattle.simplify.specs.Candidates.{weight_of}
use Rattle.simplify.specs.LeastKeys.{key_of, HasLeaves}
use Rattle.simplify.proofs.candidates.keys_of.Given as goal

-- the leaves of the first variables have their keys
abbrev pub invariant-loop-place : goal.invariant-loop-place
invariant-loop-place l = record {
  leaves : HasLeaves l.keys.items (length l.weights);
  keys : (v : ℕ) → 1 ≤ v → v ≤ l.place → slice_index l.keys.items (length l.weights + (v - 1)) ≡ key_of true (weight_of l.weights v) v;
}
