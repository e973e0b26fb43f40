use Rattle.std.proofs.Common.{take}
use Rattle.trail.proofs.LeastVariables.{IsLeastVar}
use Rattle.trail.proofs.Tables.{AreFreed, AreUnassigned}
use Rattle.trail.proofs.trail.free_all.Given as goal

-- the variables of the entries so far are free, and the least of them is known
abbrev pub invariant-loop-entry : goal.invariant-loop-entry
invariant-loop-entry l = record {
  truths : AreUnassigned l.initial.truths (take l.entry-index l.dropped) l.truths;
  places : AreFreed 0 l.initial.places (take l.entry-index l.dropped) l.places;
  least : IsLeastVar l.bound (take l.entry-index l.dropped) l.least;
}
