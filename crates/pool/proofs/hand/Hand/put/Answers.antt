use Rattle.pool.proofs.HandCalls.{put_in}
use Rattle.pool.proofs.hand.Hand.put.Goals as goal

pub returns-clause-put : goal.returns-clause-put
returns-clause-put c = let i = c.self.inside in put_in i.number i.vars i.owner i.thieves.items i.words c.self.invariant _ c.args.cube _ c.put.result c.self.view_is c.put.ensures
