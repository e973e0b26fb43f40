use Rattle.std.proofs.Common.{◌≡◌, take}
use Rattle.cdcl.proofs.AwaitedPlaces.{WaitFor}
use Rattle.cdcl.proofs.analysis.below.wait_for_removable.Given as goal

-- the places of those so far wait
abbrev pub invariant-loop-at : goal.invariant-loop-at
invariant-loop-at l = record {
  marked : l.marks.marked ≡ l.initial.marks.marked;
  current : l.marks.current ≡ l.initial.marks.current;
  seen : l.marks.seen ≡ l.initial.marks.seen;
  waits : WaitFor l.kernel.trail l.initial.marks.marked.items (take l.at l.removing.removable.numbers) l.initial.marks.pending l.marks.pending;
}
