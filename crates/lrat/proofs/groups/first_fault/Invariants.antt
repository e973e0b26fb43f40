use Rattle.std.proofs.Common.{◌≡◌, ℕ, List, [], drop, nat_eq}
use Rattle.std.specs.HashSet.{contains}
use Rattle.theory.specs.Checking.{groups_fault}
use Rattle.lrat.specs.Slots.{there}
use Rattle.lrat.specs.Named.{IsNamed, HasCandidates}
use Rattle.lrat.proofs.groups.first_fault.Given as goal

-- the groups that are left give the answer
abbrev pub invariant-loop-group : goal.invariant-loop-group
invariant-loop-group l = record {
  left : (L : List ℕ) × IsNamed (contains nat_eq l.named) L
      × (groups_fault (there l.clauses) l.fn.held.literals l.pivot L (drop l.group-index l.groups) ≡ groups_fault (there l.clauses) l.fn.held.literals l.pivot [] l.groups);
  named : HasCandidates (there l.clauses) l.pivot (contains nat_eq l.named) l.group-index;
  kept : l.held.literals ≡ l.fn.held.literals;
  vars : l.held.vars ≡ l.fn.held.vars;
}
