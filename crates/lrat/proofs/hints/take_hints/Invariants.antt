use Rattle.std.proofs.Common.{◌≡◌, drop}
use Rattle.theory.specs.Checking.{take_hints}
use Rattle.lrat.specs.Held.{Extends}
use Rattle.lrat.specs.Slots.{there}
use Rattle.lrat.proofs.hints.take_hints.Given as goal

-- the hints that are left give the answer
abbrev pub invariant-loop-index : goal.invariant-loop-index
invariant-loop-index l = record {
  left : take_hints (there l.clauses) l.held.literals (drop l.index l.hints) ≡ take_hints (there l.clauses) l.fn.held.literals l.hints;
  extends : Extends l.fn.held.literals l.held.literals;
  vars : l.held.vars ≡ l.fn.held.vars;
}
