use Rattle.std.proofs.Common.{◌≡◌, ◌+◌, ◌<◌, ℕ, false, length, take, slice_index_or}
use Rattle.theory.specs.Forgetting.{is_reason}
use Rattle.cdcl.proofs.search.forgetting.reasons.Given as goal

-- the reasons of the entries so far are noted
abbrev pub invariant-loop-entry : goal.invariant-loop-entry
invariant-loop-entry l = record {
  long : length l.reasons.items ≡ l.count;
  noted : (i : ℕ) → i < l.count → slice_index_or l.reasons.items i false ≡ is_reason (take l.entry-index l.kernel.trail) (l.from + i);
}
