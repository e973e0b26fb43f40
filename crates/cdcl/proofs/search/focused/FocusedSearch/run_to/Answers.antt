use Rattle.std.proofs.Common.{◌∙◌, Some, None, refl}
use Rattle.theory.specs.Truth.{Assignment}
use Rattle.cdcl.specs.Focusing.{HasSaved, IsFocusedSearchStep, GoesOnward}
use Rattle.cdcl.proofs.SearchedFormulas.{formula-stays}
use Rattle.cdcl.proofs.Steps.{GoesOn-trans}
use Rattle.cdcl.proofs.FocusedSteps.{GoesTo-first, GoesTo-step, GoesTo-stops, stops-spent, GoesOnward-less}
use Rattle.cdcl.proofs.search.focused.FocusedSearch.run_to.Given.{Over}
use Rattle.cdcl.proofs.search.focused.FocusedSearch.run_to.Goals as goal
use Rattle.cdcl.proofs.search.focused.FocusedSearch.run_to.Goals.{In-Some, In_ok-told}

pub steps-init : goal.steps-init
steps-init g c = record {
  focusing = c.requires.focusing;
  units = c.requires.units;
  counted = c.requires.counted.0;
  goes_on = (refl, refl, refl, c.requires.focusing.searching.has_memory, refl);
  constants = refl;
  leads = GoesTo-first c.args.last c.args.self.now;
}

stopped : (g : Over) (c : In-Some g) → (saved : Assignment) → HasSaved c.steps.self saved → IsFocusedSearchStep c.args.last c.steps.self saved (Some c.in-Some.stop) c.step.new.self
stopped g c = rw c.in-Some.is at c.in_ok-stop.ensures.step

pub returns-in-Some-clause-stops : goal.returns-in-Some-clause-stops
returns-in-Some-clause-stops g c =
    GoesTo-stops c.args.last c.args.self.now c.steps.self c.step.new.self c.in-Some.stop c.steps.invariant.constants (formula-stays c.args.self.now.kernel c.steps.self.kernel c.steps.invariant.goes_on)
    (formula-stays c.steps.self.kernel c.step.new.self.kernel c.in_ok-stop.ensures.kept.goes_on) c.steps.invariant.leads (stopped g c)

pub returns-in-Some-clause-spent : goal.returns-in-Some-clause-spent
returns-in-Some-clause-spent g c is = stops-spent c.args.last c.steps.self c.step.new.self c.steps.self.decisions.saved c.in-Some.stop (stopped g c c.steps.self.decisions.saved (λ v k f. refl)) is

went_on : (g : Over) (c : In_ok-told g) → (saved : Assignment) → HasSaved c.steps.self saved → IsFocusedSearchStep c.args.last c.steps.self saved None c.step.new.self
went_on g c = rw c.in_default.is at c.in_ok-stop.ensures.step

-- with the values that the search has saved itself
values : (g : Over) → In_ok-told g → Assignment
values g c = (went_on g c c.steps.self.decisions.saved (λ v k f. refl)).values

onward : (g : Over) (c : In_ok-told g) → GoesOnward c.args.last c.steps.self c.step.new.self (values g c)
unfolding values
onward g c = (went_on g c c.steps.self.decisions.saved (λ v k f. refl)).onward

pub steps-smaller : goal.steps-smaller
steps-smaller g c =
    rw c.steps.invariant.goes_on.0 at (GoesOnward-less c.args.last c.steps.self c.step.new.self (values g c) c.steps.invariant.counted c.in_ok-stop.ensures.kept.goes_on.0 (onward g c))

pub steps-preserved : goal.steps-preserved
steps-preserved g c = record {
  focusing = (onward g c).focusing;
  units = c.in_ok-stop.ensures.units c.in_default.is;
  counted = (onward g c).counted;
  goes_on = GoesOn-trans c.args.self.now.kernel c.steps.self.kernel c.step.new.self.kernel c.steps.invariant.goes_on c.in_ok-stop.ensures.kept.goes_on;
  constants = c.in_ok-stop.ensures.kept.constants ∙ c.steps.invariant.constants;
  leads = GoesTo-step c.args.last c.args.self.now c.steps.self c.step.new.self c.steps.invariant.constants (formula-stays c.args.self.now.kernel c.steps.self.kernel c.steps.invariant.goes_on) c.steps.invariant.leads (went_on g c);
}
