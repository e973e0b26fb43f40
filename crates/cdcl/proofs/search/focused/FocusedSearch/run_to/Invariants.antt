use Rattle.std.proofs.Common.{◌≡◌, ◌<◌}
use Rattle.cdcl.specs.Searching.{GoesOn}
use Rattle.cdcl.specs.Focusing.{IsFocusing, HasUnits}
use Rattle.cdcl.proofs.Progress.{remaining}
use Rattle.cdcl.proofs.FocusedSteps.{GoesTo}
use Rattle.cdcl.proofs.search.focused.FocusedSearch.run_to.Given as goal

-- the search went from the state at first to this one
abbrev pub invariant-steps : goal.invariant-steps
invariant-steps g l = record {
  focusing : IsFocusing l.self;
  units : HasUnits l.self;
  counted : l.self.conflicts < l.last;
  goes_on : GoesOn l.initial.self.kernel l.self.kernel;
  constants : l.self.constants ≡ l.initial.self.constants;
  leads : GoesTo l.last l.initial.self l.self;
}

abbrev pub decreases-steps : goal.decreases-steps
decreases-steps g l = remaining l.initial.self.kernel.vars l.last l.self.conflicts l.self.kernel.trail
