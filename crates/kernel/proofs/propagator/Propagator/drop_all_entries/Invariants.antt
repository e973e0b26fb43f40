use Rattle.std.proofs.Common.{◌≡◌, ◌++◌, length, map, take, drop}
use Rattle.kernel.specs.Visiting.{kept_of}
use Rattle.kernel.specs.Forgetting.{names, entries_left}
use Rattle.kernel.proofs.propagator.Propagator.drop_all_entries.Given as goal

-- the lists before the place were gone through
abbrev pub invariant-loop-at : goal.invariant-loop-at
invariant-loop-at l = record {
  lists : (kept_of l.self).lists ≡ map (entries_left (names l.named)) (take l.at (kept_of l.initial.self).lists) ++ drop l.at (kept_of l.initial.self).lists;
  long : length l.self.lists ≡ length l.initial.self.lists;
  clauses : l.self.clauses.given ≡ l.initial.self.clauses.given;
  pairs : l.self.clauses.pairs ≡ l.initial.self.clauses.pairs;
  units : l.self.units ≡ l.initial.self.units;
  conflict : l.self.conflict ≡ l.initial.self.conflict;
}
