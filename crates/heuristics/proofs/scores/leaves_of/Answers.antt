use Rattle.std.proofs.Common.{◌+◌, arith}
use Rattle.heuristics.proofs.RankingViews.{leaves-field, leaves-wait}
use Rattle.heuristics.proofs.scores.leaves_of.Goals as goal

pub returns : goal.returns
returns c = λ S e.
    let i = c.loop-variable.invariant in
    let W = c.loop-variable.winners.items in
    (leaves-field (c.args.vars + 1) S W (omega arith) i.long i.before (λ v l. i.leaves v (omega arith)) e, leaves-wait c.args.vars S W i.long (λ v l. i.leaves v (omega arith)) e)
