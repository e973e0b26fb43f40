use Rattle.std.proofs.Common.{◌≤◌, ◌-◌, ◌^◌}
use Rattle.session.specs.Asking.{IsAsked}
use Rattle.session.proofs.search.Search.run.Given as goal

abbrev pub invariant-steps : goal.invariant-steps
invariant-steps g l = record {
  asked : IsAsked l.formula l.assumptions l.self;
  onward : l.initial.steps ≤ l.steps;
}

abbrev pub decreases-steps : goal.decreases-steps
decreases-steps g l = 2 ^ 64 - l.steps
