use Rattle.std.proofs.Common.{◌≡◌, ◌≤◌, ℕ, true, Some, slice_get}
use Rattle.lrat.specs.Chained.{IsOn}
use Rattle.lrat.specs.Slots.{Slot}
use Rattle.lrat.proofs.chains.Chains.first_there.Given as goal

-- the link leads to each place whose clause is there
abbrev pub invariant-loop-link : goal.invariant-loop-link
invariant-loop-link l = record {
  down : l.link ≤ l.from;
  keeps : (i : ℕ) (s : Slot) → slice_get l.clauses.slots i ≡ Some s → s.is_there ≡ true → IsOn l.self.entries.items l.from i → IsOn l.self.entries.items l.link i;
}

abbrev pub decreases-loop-link : goal.decreases-loop-link
decreases-loop-link l = l.link
