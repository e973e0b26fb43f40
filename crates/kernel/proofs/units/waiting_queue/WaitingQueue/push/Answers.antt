use Rattle.std.proofs.Common.{◌≤◌, ◌∷◌, [], length, arith}
use Rattle.std.proofs.lemmas.List.{length_push, drop-append-le}
use Rattle.kernel.proofs.InOrder.{AreInOrder-push}
use Rattle.kernel.proofs.units.waiting_queue.WaitingQueue.push.Goals as goal

pub invariant_of-self-2 : goal.invariant_of-self-2
invariant_of-self-2 c =
    let inside = c.self.invariant.0 in
    let within : c.self.inside.head ≤ length c.self.inside.items.items = omega (arith, inside) in
    let long = length_push c.self.inside.items.items c.args.waiting in
    let all = rw (← c.self.view_is) at c.requires in
    rw (c.in_ok-put_last.ensures.ok, drop-append-le c.self.inside.head c.self.inside.items.items (c.args.waiting ∷ []) within)
    (omega (arith, within, long), AreInOrder-push _ c.args.waiting c.self.invariant.1 all)
