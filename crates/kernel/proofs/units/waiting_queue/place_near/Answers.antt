use Rattle.std.proofs.Common.{arith}
use Rattle.kernel.proofs.InOrder.{before-place}
use Rattle.kernel.proofs.units.waiting_queue.place_near.Goals as goal

pub returns-then-goes_first-clause-behind : goal.returns-then-goes_first-clause-behind
returns-then-goes_first-clause-behind c k d low high =
    before-place c.args.head c.loop-at.at c.args.items.now c.index-items-at.result c.args.waiting.now (omega (arith, low, high)) c.loop-at.invariant.within c.index-items-at.is c.requires.order (c.goes_first.ensures.yes c.if-goes_first.true) k d low high
