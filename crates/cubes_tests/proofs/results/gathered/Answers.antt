use Rattle.theory.specs.Plans.{ordered_within}
use Rattle.theory.specs.Pure.{searched}
use Rattle.cdcl.proofs.SearchedFormulas.{IsFormula-begun_by}
use Rattle.cubes.proofs.KnownLemmas.{AreCheckedBy-true}
use Rattle.cubes_tests.proofs.results.gathered.Goals as goal

pub gather_by_plan-requires : goal.gather_by_plan-requires
gather_by_plan-requires c =
    record { results = rw c.ordered.ensures (AreCheckedBy-true (λ lines. lines) (searched c.args.formula.now) (ordered_within 1) c.loop-row.results.items (IsFormula-begun_by c.args.formula.now (ordered_within 1) c.vars-vars.ensures.within.formula) c.loop-row.invariant) }
