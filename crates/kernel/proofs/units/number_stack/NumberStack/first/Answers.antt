use Rattle.std.proofs.Common.{◌-◌, arith}
use Rattle.kernel.proofs.NumberStacks.{AreFalling-least, goes-first}
use Rattle.kernel.proofs.units.number_stack.NumberStack.first.Goals as goal

pub returns-clause-first : goal.returns-clause-first
returns-clause-first c =
    let us = c.self.inside.items.items in
    let count = c.len-count.ensures in
    let long = c.self.inside.items.ok.0 in
    rw (← c.self.view_is, c.waiting.ensures)
    (goes-first us c.index.result.now (AreFalling-least us (c.len-count.result - 1) c.index.result.now c.index.result.now c.self.invariant (omega (arith, count, long, c.if-count-eq0.false)) c.index.ensures))
