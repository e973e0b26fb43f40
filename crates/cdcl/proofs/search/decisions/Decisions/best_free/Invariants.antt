use Rattle.std.proofs.Common.{◌≡◌, count_by}
use Rattle.theory.specs.Trails.{literals}
use Rattle.cdcl.specs.Saving.{AreWaiting, AreKept}
use Rattle.cdcl.proofs.search.decisions.Decisions.best_free.Given as goal

-- each held variable that is free waits still
abbrev pub invariant-waiting : goal.invariant-waiting
invariant-waiting l = record {
  waiting : AreWaiting l.kernel.vars (literals l.kernel.trail) l.self;
  kept : AreKept l.initial.self l.self;
  saved : l.self.saved ≡ l.initial.self.saved;
}

abbrev pub decreases-waiting : goal.decreases-waiting
decreases-waiting l = count_by (λ b. b) l.self.scores.waiting
