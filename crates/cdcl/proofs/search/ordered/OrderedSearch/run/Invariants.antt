use Rattle.std.proofs.Common.{◌<◌}
use Rattle.theory.specs.Search.{Outcome, RunsFrom}
use Rattle.theory.specs.Ordered.{IsOrderedStep}
use Rattle.kernel.specs.declared.order.Order.TheVariants.{ByNumber}
use Rattle.cdcl.specs.Searching.{IsSearching, GoesOn, search_of}
use Rattle.cdcl.proofs.Progress.{remaining}
use Rattle.cdcl.proofs.search.ordered.OrderedSearch.run.Given as goal

-- whatever the state leads to, the state at first does
abbrev pub invariant-steps : goal.invariant-steps
invariant-steps g l = record {
  searching : IsSearching ByNumber l.self.kernel;
  counted : l.self.conflicts < l.budget;
  goes_on : GoesOn l.initial.self.kernel l.self.kernel;
  leads : (o : Outcome) → RunsFrom (IsOrderedStep l.initial.self.kernel.vars l.budget) (search_of l.self) o → RunsFrom (IsOrderedStep l.initial.self.kernel.vars l.budget) (search_of l.initial.self) o;
}

abbrev pub decreases-steps : goal.decreases-steps
decreases-steps g l = remaining l.initial.self.kernel.vars l.budget l.self.conflicts l.self.kernel.trail
