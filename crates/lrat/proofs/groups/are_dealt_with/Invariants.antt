use Rattle.std.proofs.Common.{◌≡◌, ◌≤◌, ℕ, true, Some, List, nat_eq, slice_get, vec_len}
use Rattle.std.specs.HashSet.{contains}
use Rattle.theory.specs.Literals.{has}
use Rattle.lrat.specs.Chained.{IsOn}
use Rattle.lrat.specs.Slots.{Slot}
use Rattle.lrat.specs.Named.{IsNamed, IsDealtWith}
use Rattle.lrat.proofs.groups.are_dealt_with.Given as goal

-- the link leads to each candidate that isn't dealt with
abbrev pub invariant-loop-link : goal.invariant-loop-link
invariant-loop-link l = record {
  left : (L : List ℕ) → IsNamed (contains nat_eq l.named) L → (i : ℕ) (s : Slot) → slice_get l.clauses.slots i ≡ Some s → s.is_there ≡ true → has s.clause l.pivot ≡ true
      → (IsDealtWith l.fn.held.literals l.pivot L s → ⊥) → IsOn l.occurrences.chains.entries.items l.link i;
  within : l.link ≤ vec_len l.occurrences.chains.entries;
  kept : l.held.literals ≡ l.fn.held.literals;
  vars : l.held.vars ≡ l.fn.held.vars;
}

abbrev pub decreases-loop-link : goal.decreases-loop-link
decreases-loop-link l = l.link
