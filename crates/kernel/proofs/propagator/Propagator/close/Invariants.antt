use Rattle.std.proofs.Common.{◌≡◌, ◌≤◌, ℕ, [], length}
use Rattle.theory.specs.Trails.{Trail, literals, current_level}
use Rattle.theory.specs.Propagation.{Closed, Propagates}
use Rattle.theory.specs.Lawful.{IsLawful}
use Rattle.kernel.proofs.Falling.{open_among}
use Rattle.kernel.specs.Watching.{IsServed}
use Rattle.kernel.specs.Visiting.{kept_of, tending, AreEntries}
use Rattle.kernel.specs.Placing.{kept_with, AreInLine}
use Rattle.kernel.specs.Rules.{rule_of}
use Rattle.kernel.proofs.propagator.Propagator.close.Given as goal

-- whatever the trail so far leads to, the trail at the beginning does
abbrev pub invariant-steps : goal.invariant-steps
invariant-steps l = record {
  vars : l.trail.vars ≡ l.fn.trail.vars;
  level : l.level ≡ current_level l.trail.entries;
  leads : (a : Closed) (U : Trail) → Propagates (rule_of l.order) l.fn.self.clauses.given l.trail.entries a U → Propagates (rule_of l.order) l.fn.self.clauses.given l.fn.trail.entries a U;
  lawful : IsLawful l.fn.self.clauses.given l.fn.trail.entries → IsLawful l.fn.self.clauses.given l.trail.entries;
  inside : l.served ≤ length l.trail.entries;
  entries : AreEntries l.fn.self.clauses.given (kept_of l.self);
  clauses : l.self.clauses.given ≡ l.fn.self.clauses.given;
  lists : length l.self.lists ≡ length l.fn.self.lists;
  line : AreInLine l.order l.fn.self.clauses.given l.trail.entries l.line;
  units : l.self.units ≡ [];
  served : (floor : ℕ) → IsServed floor l.fn.self.clauses.given l.fn.trail.entries l.fn.served (tending (kept_of l.fn.self))
      → IsServed floor l.fn.self.clauses.given l.trail.entries l.served (tending (kept_with l.self l.line));
}

abbrev pub decreases-steps : goal.decreases-steps
decreases-steps l = open_among (literals l.trail.entries) l.fn.self.clauses.given
