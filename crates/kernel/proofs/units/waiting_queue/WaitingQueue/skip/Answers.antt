use Rattle.std.proofs.Common.{◌+◌, ◌∙◌, sym, subst, arith}
use Rattle.std.proofs.lemmas.List.{drop_all}
use Rattle.kernel.specs.Placing.{AreInOrder}
use Rattle.kernel.proofs.InOrder.{drop-next, AreInOrder-next}
use Rattle.kernel.proofs.units.waiting_queue.WaitingQueue.skip.Goals as goal

pub invariant_of-self : goal.invariant_of-self
invariant_of-self c =
    let h = c.self.inside.head in
    let ws = c.self.inside.items.items in
    let count = c.len.ensures in
    let long = c.self.inside.items.ok.0 in
    (omega (arith, c.if-self-len.true, count, long), subst AreInOrder (sym (drop-next h ws)) (AreInOrder-next _ c.self.invariant.1))

pub returns-then-self-len : goal.returns-then-self-len
returns-then-self-len c = rw (← c.self.view_is) (drop-next c.self.inside.head c.self.inside.items.items)

pub returns-else-self-len : goal.returns-else-self-len
returns-else-self-len c =
    let h = c.self.inside.head in
    let ws = c.self.inside.items.items in
    let count = c.len.ensures in
    let long = c.self.inside.items.ok.0 in
    let none = drop_all (h + 1) ws (omega (arith, c.if-self-len.false, count, long)) in
    rw (← c.self.view_is) (c.clear.ensures ∙ sym (sym (drop-next h ws) ∙ none))
