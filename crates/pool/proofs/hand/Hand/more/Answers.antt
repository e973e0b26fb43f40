use Rattle.theory.specs.Ledger.{more}
use Rattle.pool.proofs.HandCalls.{noted}
use Rattle.pool.proofs.hand.Hand.more.Goals as goal

pub returns-clause-noted : goal.returns-clause-noted
returns-clause-noted c = let i = c.self.inside in noted i.number i.vars i.owner i.thieves.items i.words c.self.invariant _ (more) _ c.self.view_is c.more.ensures
