use Rattle.std.proofs.Common.{◌≡◌, take}
use Rattle.std.specs.List.Sorted.{IsPermutation}
use Rattle.kernel.proofs.propagator.Propagator.wait.Given as goal

abbrev pub invariant-loop-clause : goal.invariant-loop-clause
invariant-loop-clause l = record {
  units : IsPermutation (take l.clause-index l.clauses) l.self.units;
  clauses : l.self.clauses.given ≡ l.initial.self.clauses.given;
  pairs : l.self.clauses.pairs ≡ l.initial.self.clauses.pairs;
  lists : l.self.lists ≡ l.initial.self.lists;
  conflict : l.self.conflict ≡ l.initial.self.conflict;
}
