use Rattle.std.proofs.Common.{◌≡◌, All, length}
use Rattle.theory.specs.Truth.{IsOver}
use Rattle.packs.specs.Known.{begun, IsHolding}
use Rattle.packs.proofs.PastLines.{IsPast}
use Rattle.packs.proofs.replay.passing.refute.Given as goal

abbrev pub invariant-lines : goal.invariant-lines
invariant-lines l = record {
  past : IsPast l.formula.vars l.cube (begun l.formula l.units) l.lines l.forgotten.marks.items l.row l.left l.ends;
  first : l.forgotten.first ≡ length (begun l.formula l.units);
  holding : IsHolding l.cube l.held.literals;
  count : l.count ≡ length l.held.literals;
  over : All (IsOver l.formula.vars) l.lines;
  vars : l.held.vars ≡ l.formula.vars;
}

-- each turn reads a line
abbrev pub decreases-lines : goal.decreases-lines
decreases-lines l = length l.left
