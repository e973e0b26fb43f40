use Rattle.std.proofs.Common.{refl, ap, sym}
use Rattle.theory.specs.Plans.{default_constants, Plan}
use Rattle.cdcl.specs.declared.api.plan.Search.TheVariants.{Ordered}
use Rattle.cubes.specs.declared.tree.Tree.TheVariants.{Refuted}
use Rattle.join.proofs.JoinLemmas.{AreChecked-result, few-units, result-nodes}
use Rattle.join_tests.proofs.fed.fed.Goals as goal

pub start-requires-clause-units : goal.start-requires-clause-units
start-requires-clause-units c = few-units c.args.formula.now Ordered (Refuted c.in-Refuted.nodes) c.in_ok-units.units.items c.vars-vars.ensures.within c.in_ok-units.ensures

pub put_nodes-requires-clause-nodes : goal.put_nodes-requires-clause-nodes
put_nodes-requires-clause-nodes c =
    let F = c.args.formula.now in
    let within = c.vars-vars.ensures.within in
    let checked = rw c.in-Refuted.is at (AreChecked-result F c.ordered.result Ordered default_constants c.in_ok-nodes.field-0 (ap (λ (p : Plan). p.search) (sym c.ordered.ensures)) within.formula c.in_ok-nodes.ensures.result) in
    result-nodes F Ordered c.clause_count.result c.in_ok-joiner.joiner.clauses (Refuted c.in-Refuted.nodes) c.in_ok-units.units.items c.in-Refuted.nodes.items within c.clause_count.ensures.count c.in_ok-joiner.ensures.clauses
    c.in_ok-units.ensures checked refl
