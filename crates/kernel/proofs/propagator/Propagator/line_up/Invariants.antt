use Rattle.std.proofs.Common.{◌≡◌, ◌++◌, length, ℕ}
use Rattle.std.specs.List.{Contains}
use Rattle.std.specs.List.Sorted.{IsPermutation}
use Rattle.kernel.specs.Placing.{clauses_of, AreInLine}
use Rattle.kernel.proofs.propagator.Propagator.line_up.Given as goal

abbrev pub invariant-loop-clause : goal.invariant-loop-clause
invariant-loop-clause l = record {
  waiting : IsPermutation (clauses_of l.initial.line ++ l.initial.self.units) (clauses_of l.line ++ l.self.units);
  placed : AreInLine l.order l.initial.self.clauses.given l.trail.entries l.initial.line → AreInLine l.order l.initial.self.clauses.given l.trail.entries l.line;
  found : (n : ℕ) → Contains l.self.units n → Contains l.initial.self.units n;
  clauses : l.self.clauses.given ≡ l.initial.self.clauses.given;
  pairs : l.self.clauses.pairs ≡ l.initial.self.clauses.pairs;
  lists : l.self.lists ≡ l.initial.self.lists;
  conflict : l.self.conflict ≡ l.initial.self.conflict;
}

abbrev pub decreases-loop-clause : goal.decreases-loop-clause
decreases-loop-clause l = length l.self.units
