use Rattle.std.proofs.Common.{ap, ◌∙◌, unwrap_or, false}
use Rattle.cdcl.proofs.TrailValues.{values-more}
use Rattle.cdcl.proofs.search.values.values.Goals as goal

pub loop-index-preserved : goal.loop-index-preserved
loop-index-preserved c =
    values-more c.args.kernel.now.clauses c.args.kernel.now.trail c.loop-index.index c.loop-index.values.items c.push.new.self.items c.unwrap_or.result c.requires c.loop-index.invariant
    (c.unwrap_or.ensures ∙ ap (λ o. unwrap_or o false) c.value.ensures) c.in_ok-push.ensures.items
