use Rattle.theory.specs.Ledger.{still_open}
use Rattle.pool.proofs.HandCalls.{noted}
use Rattle.pool.proofs.hand.Hand.still_open.Goals as goal

pub returns-clause-noted : goal.returns-clause-noted
returns-clause-noted c = let i = c.self.inside in noted i.number i.vars i.owner i.thieves.items i.words c.self.invariant _ (still_open c.still_open.result) _ c.self.view_is c.still_open.ensures
