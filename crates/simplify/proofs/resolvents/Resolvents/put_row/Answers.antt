use Rattle.simplify.proofs.LiteralSets.{IsSet-rising}
use Rattle.simplify.proofs.resolvents.Resolvents.put_row.Goals as goal

pub put-requires-clause-left : goal.put-requires-clause-left
put-requires-clause-left c = IsSet-rising c.args.database.now.vars c.clause-left.result.now c.clause-left.ensures.set

pub put-requires-clause-right : goal.put-requires-clause-right
put-requires-clause-right c = IsSet-rising c.args.database.now.vars c.clause-right.result.now c.clause-right.ensures.set
