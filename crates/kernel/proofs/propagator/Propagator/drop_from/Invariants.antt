use Rattle.std.proofs.Common.{◌≡◌, ℕ, length, take, Some}
use Rattle.std.specs.List.{Contains}
use Rattle.kernel.specs.Visiting.{kept_of}
use Rattle.kernel.specs.Cutting.{AreKeptBelow}
use Rattle.kernel.proofs.propagator.Propagator.drop_from.Given as goal

abbrev pub invariant-loop-code : goal.invariant-loop-code
invariant-loop-code l = record {
  below : AreKeptBelow l.first (take l.code-index l.codes) (kept_of l.initial.self).lists (kept_of l.self).lists;
  last : (n : ℕ) → l.last ≡ Some n → Contains (take l.code-index l.codes) n;
  long : length l.self.lists ≡ length l.initial.self.lists;
  clauses : l.self.clauses.given ≡ l.initial.self.clauses.given;
  pairs : l.self.clauses.pairs ≡ l.initial.self.clauses.pairs;
  units : l.self.units ≡ l.initial.self.units;
  conflict : l.self.conflict ≡ l.initial.self.conflict;
}
