use Rattle.std.proofs.Common.{◌<◌, None}
use Rattle.kernel.specs.declared.order.Order.TheVariants.{ByNumber}
use Rattle.cdcl.specs.Searching.{IsSearching, IsSearchStep}
use Rattle.cdcl.proofs.Progress.{remaining}
use Rattle.cdcl.proofs.Steps.{IsSearchStep-ends, IsSearchStep-leads, IsSearchStep-keeps, GoesOn-trans}
use Rattle.cdcl.proofs.search.ordered.OrderedSearch.run.Given.{Over}
use Rattle.cdcl.proofs.search.ordered.OrderedSearch.run.Goals as goal
use Rattle.cdcl.proofs.search.ordered.OrderedSearch.run.Goals.{In_ok-told}

pub returns-in-Some-clause-runs : goal.returns-in-Some-clause-runs
returns-in-Some-clause-runs g c =
    c.steps.invariant.leads _ (IsSearchStep-ends c.args.self.now.kernel.vars c.args.budget c.steps.self c.step.new.self c.in-Some.outcome c.steps.invariant.goes_on.0 (rw c.in-Some.is at c.in_ok-outcome.ensures))

went_on : (g : Over) (c : In_ok-told g) → IsSearchStep c.args.budget c.steps.self None c.step.new.self
went_on g c = rw c.in_default.is at c.in_ok-outcome.ensures

kept : (g : Over) (c : In_ok-told g) → IsSearching ByNumber c.step.new.self.kernel × (c.step.new.self.conflicts < c.args.budget)
    × (remaining c.steps.self.kernel.vars c.args.budget c.step.new.self.conflicts c.step.new.self.kernel.trail
    < remaining c.steps.self.kernel.vars c.args.budget c.steps.self.conflicts c.steps.self.kernel.trail)
kept g c = IsSearchStep-keeps c.args.budget c.steps.self c.step.new.self c.steps.invariant.searching c.steps.invariant.counted (went_on g c)

pub steps-smaller : goal.steps-smaller
steps-smaller g c = rw c.steps.invariant.goes_on.0 at (kept g c).2

pub steps-preserved : goal.steps-preserved
steps-preserved g c = record {
  searching = (kept g c).0;
  counted = (kept g c).1;
  goes_on = GoesOn-trans c.args.self.now.kernel c.steps.self.kernel c.step.new.self.kernel c.steps.invariant.goes_on (went_on g c).goes_on;
  leads = λ o h. c.steps.invariant.leads o (IsSearchStep-leads c.args.self.now.kernel.vars c.args.budget c.steps.self c.step.new.self o c.steps.invariant.goes_on.0 (went_on g c) h);
}
