use Rattle.std.proofs.Common.{◌≤◌, ◌-◌, length, take}
use Rattle.kernel.proofs.Cutting.{IsKeeping}
use Rattle.kernel.proofs.watches.cut.keep_below.Given as goal

-- those before the place are kept, and those behind the end were taken out
abbrev pub invariant-loop-place : goal.invariant-loop-place
invariant-loop-place l = record {
  keeping : IsKeeping l.first l.initial.list (take l.end l.list) l.place;
  within : l.place ≤ l.end;
  inside : l.end ≤ length l.list;
}

abbrev pub decreases-loop-place : goal.decreases-loop-place
decreases-loop-place l = l.end - l.place
