use Rattle.std.proofs.Common.{◌≡◌, ◌++◌, [], length, take}
use Rattle.kernel.specs.Visiting.{kept_of}
use Rattle.kernel.specs.Attaching.{IsWatching}
use Rattle.kernel.proofs.propagator.Propagator.attach_all.Given as goal

-- the clauses before the place are attached
abbrev pub invariant-loop-place : goal.invariant-loop-place
invariant-loop-place l = record {
  clauses : l.self.clauses.given ≡ l.initial.self.clauses.given ++ take l.place l.formula.clauses;
  watching : IsWatching l.formula.vars (length l.initial.self.clauses.given) l.initial.self.clauses.given [] 0 0 (kept_of l.initial.self) l.initial.singles.items l.initial.self.conflict
      → IsWatching l.formula.vars (length l.self.clauses.given) l.self.clauses.given [] 0 0 (kept_of l.self) l.singles.items l.self.conflict;
  lists : length l.self.lists ≡ length l.initial.self.lists;
}
