use Rattle.std.proofs.Common.{◌≤◌, length, take}
use Rattle.theory.specs.Trails.{literals}
use Rattle.theory.specs.Focused.{saved_after}
use Rattle.cdcl.specs.Saving.{AgreeOutside, AreWaiting, AreKept}
use Rattle.cdcl.proofs.search.decisions.Decisions.release.Given as goal

-- the variables of the entries behind those that are left wait, and their values are saved
abbrev pub invariant-loop-count : goal.invariant-loop-count
invariant-loop-count l = record {
  within : l.count ≤ length l.kernel.trail;
  most : l.kept ≤ l.count;
  waiting : AreWaiting l.kernel.vars (literals (take l.count l.kernel.trail)) l.self;
  saved : AgreeOutside l.kernel.vars (literals (take l.count l.kernel.trail)) l.self.saved (saved_after l.kernel.vars l.kernel.trail l.initial.self.saved);
  same : AreKept l.initial.self l.self;
}

abbrev pub decreases-loop-count : goal.decreases-loop-count
decreases-loop-count l = l.count
