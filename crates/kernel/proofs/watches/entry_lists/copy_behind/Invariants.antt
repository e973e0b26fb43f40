use Rattle.std.proofs.Common.{◌≡◌, ◌≤◌, ◌++◌, take, drop}
use Rattle.kernel.proofs.watches.entry_lists.copy_behind.Given as goal

abbrev pub invariant-loop-place : goal.invariant-loop-place
invariant-loop-place l = record {
  behind : l.entries.items ≡ l.initial.entries.items ++ take l.place (drop l.from l.initial.entries.items);
  within : l.place ≤ l.count;
}
