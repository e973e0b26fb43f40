use Rattle.std.proofs.Common.{ap, sym}
use Rattle.theory.specs.Plans.{default_constants, Plan}
use Rattle.cdcl.specs.declared.api.plan.Search.TheVariants.{Ordered}
use Rattle.join.proofs.JoinLemmas.{AreChecked-result}
use Rattle.join_tests.proofs.joined.has_room.Goals as goal

pub of-requires : goal.of-requires
of-requires c =
    AreChecked-result c.in_ok-formula.formula c.ordered.result Ordered default_constants c.in_ok-tree.tree (ap (λ (p : Plan). p.search) (sym c.ordered.ensures)) c.vars-vars.ensures.within.formula c.in_ok-tree.ensures.result
