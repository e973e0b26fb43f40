use Rattle.std.proofs.Common.{◌≡◌, length, drop}
use Rattle.simplify.specs.Stored.{without_entries, AreRemovable}
use Rattle.simplify.proofs.elimination.remove_all.Given as goal

-- the rest is still to go
abbrev pub invariant-loop-number : goal.invariant-loop-number
invariant-loop-number l = record {
  vars : l.database.vars ≡ l.fn.database.vars;
  long : length l.database.entries ≡ length l.fn.database.entries;
  there : AreRemovable l.database.entries (drop l.number-index l.numbers);
  left : without_entries l.database.entries (drop l.number-index l.numbers) ≡ without_entries l.fn.database.entries l.numbers;
}
