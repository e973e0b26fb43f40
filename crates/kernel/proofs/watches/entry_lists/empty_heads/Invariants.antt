use Rattle.std.proofs.Common.{◌≡◌, ◌≤◌, length, take, All}
use Rattle.kernel.specs.EntryLists.{AreApart}
use Rattle.kernel.proofs.watches.entry_lists.empty_heads.Given as goal

abbrev pub invariant-loop-place : goal.invariant-loop-place
invariant-loop-place l = record {
  apart : AreApart l.heads.items (take l.place l.rooms) l.end;
  empty : All (λ h. h.len ≡ 0) l.heads.items;
  within : l.place ≤ length l.rooms;
}
