use Rattle.std.proofs.Common.{◌≡◌, ◌∙◌, ap, length, arith, get_or, ◌-◌}
use Rattle.kernel.proofs.InOrder.{before-next}
use Rattle.kernel.proofs.units.waiting_queue.WaitingQueue.takes.Goals as goal

pub returns : goal.returns
returns c goes =
    let within = c.self.invariant.0 in
    let ws = c.self.inside.items.items in
    let long = c.self.inside.items.ok.0 in
    let count : c.len-count.result ≡ length ws = omega (arith, c.len-count.ensures, long) in
    let last = c.index-last.result.now in
    rw (← c.self.view_is) (before-next c.self.inside.head ws last last c.args.waiting.now (omega (arith, within, count, c.if-count-self.false))
    (c.index-last.ensures ∙ ap (λ n. get_or ws (n - 1) last) count) c.self.invariant.1 (c.goes_first.ensures.yes goes))
