use Rattle.std.proofs.Common.{◌≤◌, ◌∷◌, [], length, arith}
use Rattle.std.proofs.lemmas.List.{length_push, drop-append-le}
use Rattle.kernel.proofs.InOrder.{AreInOrder-push}
use Rattle.kernel.proofs.units.waiting_queue.WaitingQueue.put_behind.Goals as goal

pub invariant_of-self : goal.invariant_of-self
invariant_of-self c =
    let inside = c.self.invariant.0 in
    let within : c.self.inside.head ≤ length c.self.inside.items.items = omega (arith, inside) in
    let long = length_push c.self.inside.items.items c.args.waiting.now in
    let all = rw (← c.self.view_is) at (c.takes.ensures c.if-not-takes.false) in
    rw (c.push_reserved.ensures.items, drop-append-le c.self.inside.head c.self.inside.items.items (c.args.waiting.now ∷ []) within)
    (omega (arith, within, long), AreInOrder-push _ c.args.waiting.now c.self.invariant.1 all)
