use Rattle.std.proofs.Common.{◌≡◌, ℕ, ◌++◌, [], length, take}
use Rattle.theory.specs.Pure.{unit_clauses}
use Rattle.theory.specs.Truth.{IsOver}
use Rattle.kernel.specs.Visiting.{kept_of}
use Rattle.kernel.specs.Attaching.{IsWatching}
use Rattle.kernel.proofs.propagator.Propagator.attach_units.Given as goal

abbrev pub invariant-loop-lit : goal.invariant-loop-lit
invariant-loop-lit l = record {
  clauses : l.self.clauses.given ≡ l.initial.self.clauses.given ++ unit_clauses (take l.lit-index l.units);
  lists : length l.self.lists ≡ length l.initial.self.lists;
  watching : (V : ℕ) → IsOver V l.units
      → IsWatching V (length l.initial.self.clauses.given) l.initial.self.clauses.given [] 0 0 (kept_of l.initial.self) l.initial.singles.items l.initial.self.conflict
      → IsWatching V (length l.self.clauses.given) l.self.clauses.given [] 0 0 (kept_of l.self) l.singles.items l.self.conflict;
}
