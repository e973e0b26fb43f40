use Rattle.std.proofs.Common.{length, ap, subst, ◌∙◌}
use Rattle.cdcl.specs.Plans.{constants_from, first_units}
use Rattle.join.specs.Joining.{before_nodes}
use Rattle.runs.specs.Stored.{IsStreamFor}
use Rattle.strategies.proofs.DecidedTrees.{search-is}
use Rattle.runs.proofs.stored.write_refutation.Goals as goal

pub write_all_if_refuted-requires-clause-stream : goal.write_all_if_refuted-requires-clause-stream
write_all_if_refuted-requires-clause-stream g c =
    let named = search-is c.search.result (constants_from c.args.plan.search) c.args.plan.search c.search.ensures in
    subst (λ s. IsStreamFor s c.args.searched.now c.in-Ok.stream) named c.in-Ok.ensures.stream

pub write_all_if_refuted-requires-clause-joined : goal.write_all_if_refuted-requires-clause-joined
write_all_if_refuted-requires-clause-joined g c =
    let named = search-is c.search.result (constants_from c.args.plan.search) c.args.plan.search c.search.ensures in
    c.in-Ok.ensures.joined ∙ ap (λ s. before_nodes (length c.args.searched.now.clauses) (first_units s c.args.searched.now)) named
