use Rattle.std.proofs.Common.{◌≡◌, ◌≤◌, List, length}
use Rattle.theory.specs.Literals.{Literal}
use Rattle.lrat.specs.Held.{Extends}
use Rattle.lrat.proofs.held.Held.go_back.Given as goal

-- what is to be left is there still
abbrev pub invariant-loop-self : goal.invariant-loop-self
invariant-loop-self l = record {
  left : (P : List Literal) → length P ≡ l.count → Extends P l.fn.self.literals → Extends P l.self.literals;
  few : length l.fn.self.literals ≤ l.count → l.self.literals ≡ l.fn.self.literals;
  vars : l.self.vars ≡ l.fn.self.vars;
}

abbrev pub decreases-loop-self : goal.decreases-loop-self
decreases-loop-self l = length l.self.literals
