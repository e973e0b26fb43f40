use Rattle.std.proofs.Common.{◌≡◌, ℕ, List, drop}
use Rattle.theory.specs.Literals.{Literal}
use Rattle.theory.specs.Checking.{take_hints}
use Rattle.theory.specs.Replaying.{carrying_from}
use Rattle.lrat.specs.Held.{Extends}
use Rattle.packs.specs.Known.{known, is_conflict, AreHeld}
use Rattle.packs.proofs.replay.taking.come_to_conflict.Given as goal

-- the hints that are left give the answer
abbrev pub invariant-loop-index : goal.invariant-loop-index
invariant-loop-index l = record {
  left : (N : ℕ) (Q : List Literal) → AreHeld Q l.fn.held.literals →
      is_conflict (take_hints (carrying_from 1 N Q (known l.formula l.units l.lines)) l.held.literals (drop l.index l.hints))
      ≡ is_conflict (take_hints (carrying_from 1 N Q (known l.formula l.units l.lines)) l.fn.held.literals l.hints);
  extends : Extends l.fn.held.literals l.held.literals;
  vars : l.held.vars ≡ l.fn.held.vars;
}
