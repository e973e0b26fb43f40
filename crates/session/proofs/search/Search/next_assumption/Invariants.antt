use Rattle.std.proofs.Common.{◌≡◌, ◌-◌, length}
use Rattle.session.specs.Asking.{IsAsked}
use Rattle.session.proofs.search.Search.next_assumption.Given as goal

abbrev pub invariant-loop-self : goal.invariant-loop-self
invariant-loop-self l = record {
  asked : IsAsked l.formula l.assumptions l.self;
  kernel : l.self.kernel ≡ l.initial.self.kernel;
}

abbrev pub decreases-loop-self : goal.decreases-loop-self
decreases-loop-self l = length l.assumptions - l.self.assumed
