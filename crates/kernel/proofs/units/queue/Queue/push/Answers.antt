use Rattle.std.proofs.Common.{◌≤◌, length, arith}
use Rattle.std.proofs.lemmas.List.{length_push}
use Rattle.kernel.proofs.UnitLemmas.{rising-push}
use Rattle.kernel.proofs.units.queue.Queue.push.Goals as goal

pub invariant_of-self-2 : goal.invariant_of-self-2
invariant_of-self-2 c =
    let inside = c.self.invariant.0 in
    let within : c.self.inside.head ≤ length c.self.inside.items.items = omega (arith, inside) in
    let long = length_push c.self.inside.items.items c.args.number in
    let all = rw (← c.self.view_is) at c.requires in
    rw c.in_ok-push.ensures.items (omega (arith, within, long), rising-push c.self.inside.head c.self.inside.items.items c.args.number within c.self.invariant.1 all)
