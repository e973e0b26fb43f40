use Rattle.std.proofs.Common.{◌≤◌, ◌<◌, ℕ, length, get_or}
use Rattle.kernel.specs.declared.units.unit_queue.Waiting.{Waiting}
use Rattle.kernel.specs.Placing.{GoesFirst}
use Rattle.kernel.proofs.units.waiting_queue.place_near.Given as goal

-- the clause goes before those from the place on
abbrev pub invariant-loop-at : goal.invariant-loop-at
invariant-loop-at l = record {
  within : l.at ≤ length l.items;
  low : l.head ≤ l.at;
  before : (k : ℕ) (d : Waiting) → l.at ≤ k → k < length l.items → GoesFirst l.waiting (get_or l.items k d);
}

abbrev pub decreases-loop-at : goal.decreases-loop-at
decreases-loop-at l = l.at
