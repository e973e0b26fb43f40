use Rattle.std.proofs.Common.{ℕ, length}
use Rattle.kernel.specs.Watching.{IsServed}
use Rattle.kernel.specs.Visiting.{kept_of, tending}
use Rattle.kernel.specs.Placing.{clauses_of, AreInLine}
use Rattle.kernel.specs.declared.order.Order.{Order}
use Rattle.kernel.proofs.propagator.Propagator.next_in_line.Given as goal

abbrev pub invariant-loop-waiting : goal.invariant-loop-waiting
invariant-loop-waiting l = record {
  served : (floor : ℕ) → IsServed floor l.self.clauses.given l.trail.entries (length l.trail.entries) (record (tending (kept_of l.self)) { units = clauses_of l.initial.line })
      → IsServed floor l.self.clauses.given l.trail.entries (length l.trail.entries) (record (tending (kept_of l.self)) { units = clauses_of l.line });
  line : (o : Order) → AreInLine o l.self.clauses.given l.trail.entries l.initial.line → AreInLine o l.self.clauses.given l.trail.entries l.line;
}

abbrev pub decreases-loop-waiting : goal.decreases-loop-waiting
decreases-loop-waiting l = length l.line
