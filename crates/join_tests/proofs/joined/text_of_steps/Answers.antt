use Rattle.theory.specs.Plans.{default_constants, ordered_within}
use Rattle.theory.specs.Pure.{searched}
use Rattle.cubes.proofs.GatheringLemmas.{IsCheckedResultBy-IsResultBy}
use Rattle.cdcl.proofs.SearchedFormulas.{IsFormula-begun_by}
use Rattle.join_tests.proofs.joined.text_of_steps.Goals as goal

pub join-requires : goal.join-requires
join-requires c = (
  default_constants,
  IsCheckedResultBy-IsResultBy (λ lines. lines) (searched c.args.formula.now) (ordered_within 2) c.in_ok-tree.tree (IsFormula-begun_by c.args.formula.now (ordered_within 2) c.vars-vars.ensures.within.formula) c.in_ok-tree.ensures.result,
)
