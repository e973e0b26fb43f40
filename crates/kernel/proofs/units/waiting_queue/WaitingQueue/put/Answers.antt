use Rattle.std.proofs.Common.{◌≤◌, ◌-◌, length, drop, arith}
use Rattle.std.proofs.lemmas.List.Edits.{length-insert}
use Rattle.std.proofs.lemmas.List.Sorted.{IsPermutation-insert}
use Rattle.kernel.proofs.InOrder.{AreInOrder-insert, insert-behind}
use Rattle.kernel.proofs.units.waiting_queue.WaitingQueue.put.Goals as goal

pub invariant_of-self-in-Some : goal.invariant_of-self-in-Some
invariant_of-self-in-Some c =
    let ws = c.self.inside.items.items in
    let n = c.in-Some.ensures in
    let low = n.within.0 in
    let high : c.in-Some.place ≤ length ws = rw c.deref.ensures.value at n.within.1 in
    let first = c.self.invariant.0 in
    let long = length-insert ws c.in-Some.place c.args.waiting.now high in
    rw (c.in_ok-insert-in-Some.ensures.items, insert-behind c.self.inside.head c.in-Some.place ws c.args.waiting.now low high)
    (omega (arith, first, long), AreInOrder-insert c.self.inside.head c.in-Some.place ws c.args.waiting.now low high c.self.invariant.1 (rw c.deref.ensures.value at n.behind) (rw c.deref.ensures.value at n.before))

pub returns-in_ok-insert-in-Some-clause-put : goal.returns-in_ok-insert-in-Some-clause-put
returns-in_ok-insert-in-Some-clause-put c h =
    let ws = c.self.inside.items.items in
    let n = c.in-Some.ensures in
    let low = n.within.0 in
    let high : c.in-Some.place ≤ length ws = rw c.deref.ensures.value at n.within.1 in
    rw (← c.self.view_is, c.in_ok-insert-in-Some.ensures.items, insert-behind c.self.inside.head c.in-Some.place ws c.args.waiting.now low high)
    (IsPermutation-insert (drop c.self.inside.head ws) (c.in-Some.place - c.self.inside.head) c.args.waiting.now)
