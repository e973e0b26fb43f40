use Rattle.std.proofs.Common.{◌≡◌, ℕ, drop}
use Rattle.theory.specs.Checking.{deleted}
use Rattle.lrat.specs.Occurrences.{StayThere}
use Rattle.lrat.specs.Flat.{AreUpTo}
use Rattle.lrat.specs.Slots.{there}
use Rattle.lrat.proofs.checker.delete.Given as goal

-- the numbers that are left give the answer
abbrev pub invariant-loop-id : goal.invariant-loop-id
invariant-loop-id l = record {
  left : deleted (there l.clauses) (drop l.id-index l.ids) ≡ deleted (there l.fn.clauses) l.ids;
  stay : StayThere l.fn.clauses.slots l.clauses.slots;
  up_to : (n : ℕ) → AreUpTo n l.fn.clauses.slots → AreUpTo n l.clauses.slots;
  vars : l.clauses.vars ≡ l.fn.clauses.vars;
}
