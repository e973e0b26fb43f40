use Rattle.std.proofs.Common.{◌≡◌, ℕ, length}
use Rattle.kernel.specs.Watching.{IsServed}
use Rattle.kernel.specs.Visiting.{kept_of, tending, AreEntries}
use Rattle.kernel.specs.Placing.{kept_with, AreInLine}
use Rattle.kernel.proofs.propagator.Propagator.serve_from.Given as goal

-- the entries before the place were served
abbrev pub invariant-loop-place : goal.invariant-loop-place
invariant-loop-place l = record {
  served : (floor : ℕ) → IsServed floor l.initial.self.clauses.given l.trail.entries l.from (tending (kept_with l.initial.self l.initial.line))
      → IsServed floor l.initial.self.clauses.given l.trail.entries l.place (tending (kept_with l.self l.line));
  entries : AreEntries l.initial.self.clauses.given (kept_of l.self);
  clauses : l.self.clauses.given ≡ l.initial.self.clauses.given;
  lists : length l.self.lists ≡ length l.initial.self.lists;
  line : AreInLine l.order l.initial.self.clauses.given l.trail.entries l.initial.line → AreInLine l.order l.initial.self.clauses.given l.trail.entries l.line;
  units : l.self.units ≡ l.initial.self.units;
}
