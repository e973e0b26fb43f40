use Rattle.std.proofs.Common.{◌≡◌, ◌≤◌, ◌-◌, length, get_or}
use Rattle.theory.specs.Literals.{Clause}
use Rattle.cdcl.specs.Marks.{IsMarked}
use Rattle.cdcl.specs.Removing.{IsKnown, IsAsking, HasRoomFor, KnowsStill}
use Rattle.cdcl.proofs.analysis.minimize.Minimizer.ask.Given as goal

-- what was gone through is closed
abbrev pub invariant-loop-at : goal.invariant-loop-at
invariant-loop-at l = record {
  asking : (S : Clause) → IsMarked l.kernel S l.marks.marked.items l.marks.current → IsKnown l.kernel S l.fn.self → IsAsking l.kernel S l.marks.marked.items l.self l.at;
  inside : l.at ≤ length l.self.reached.numbers;
  some : 1 ≤ length l.self.reached.numbers;
  first : get_or l.self.reached.numbers 0 0 ≡ l.root;
  known : KnowsStill l.fn.self l.self;
  room : HasRoomFor l.kernel.vars l.self;
  bound : l.self.reached.bound ≡ l.fn.self.reached.bound;
}

-- no more are reached than there are variables
abbrev pub decreases-loop-at : goal.decreases-loop-at
decreases-loop-at l = l.fn.self.reached.bound - l.at
