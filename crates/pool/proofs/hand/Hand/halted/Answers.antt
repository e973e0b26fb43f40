use Rattle.theory.specs.Ledger.{halted}
use Rattle.pool.proofs.HandCalls.{noted}
use Rattle.pool.proofs.hand.Hand.halted.Goals as goal

pub returns-clause-noted : goal.returns-clause-noted
returns-clause-noted c = let i = c.self.inside in noted i.number i.vars i.owner i.thieves.items i.words c.self.invariant _ (halted c.halted.result) _ c.self.view_is c.halted.ensures.noted
