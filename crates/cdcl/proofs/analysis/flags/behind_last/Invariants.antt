use Rattle.std.proofs.Common.{◌≡◌, ◌<◌, ◌≤◌, ℕ, false, slice_index_or}
use Rattle.cdcl.proofs.analysis.flags.behind_last.Given as goal

-- no flag behind is set
abbrev pub invariant-loop-top : goal.invariant-loop-top
invariant-loop-top l = record {
  most : l.top ≤ l.fn.top;
  none_behind : (i : ℕ) → l.top ≤ i → i < l.fn.top → slice_index_or l.flags i false ≡ false;
}

abbrev pub decreases-loop-top : goal.decreases-loop-top
decreases-loop-top l = l.top
