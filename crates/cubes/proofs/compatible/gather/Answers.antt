use Rattle.theory.specs.Plans.{ordered_within}
use Rattle.theory.specs.Pure.{searched}
use Rattle.theory.proofs.searching.PureVariables.{IsOver-first_clauses}
use Rattle.cubes.proofs.KnownLemmas.{AreCheckedBy-true}
use Rattle.cubes.proofs.compatible.gather.Goals as goal

pub gather_in-requires-clause-results : goal.gather_in-requires-clause-results
gather_in-requires-clause-results c =
    rw c.ordered-plan.ensures (AreCheckedBy-true (λ lines. lines) (searched c.args.formula.now) (ordered_within c.args.budget) c.args.results.items (IsOver-first_clauses c.args.formula.now c.vars-vars.ensures.within.formula) c.requires.results)
