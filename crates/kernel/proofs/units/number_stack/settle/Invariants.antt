use Rattle.std.proofs.Common.{◌≡◌, ◌≤◌, ◌<◌, ◌-◌, ℕ, length, take, get_or}
use Rattle.std.specs.Prelude.{insert}
use Rattle.kernel.specs.declared.units.numbered.Numbered.{Numbered}
use Rattle.kernel.proofs.units.number_stack.settle.Given as goal

-- those before the last one, with a gap at the place
abbrev pub invariant-loop-at : goal.invariant-loop-at
invariant-loop-at l = record {
  within : l.at ≤ length (take (length l.initial.items - 1) l.initial.items);
  items : (y : Numbered) × (l.items ≡ insert (take (length l.initial.items - 1) l.initial.items) l.at y);
  lesser : (k : ℕ) (d : Numbered) → l.at ≤ k → k < length (take (length l.initial.items - 1) l.initial.items) → (get_or (take (length l.initial.items - 1) l.initial.items) k d).clause ≤ l.last.clause;
}

abbrev pub decreases-loop-at : goal.decreases-loop-at
decreases-loop-at l = l.at
