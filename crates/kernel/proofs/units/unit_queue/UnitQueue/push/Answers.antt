use Rattle.kernel.proofs.UnitLemmas.{queued-units}
use Rattle.kernel.proofs.units.unit_queue.UnitQueue.push.Goals as goal

pub returns-then-put_behind : goal.returns-then-put_behind
returns-then-put_behind c = rw (← c.self.view_is, c.put_behind.ensures.put c.if-put_behind.true) (queued-units _ _ _)

pub returns : goal.returns
returns c = rw (← c.self.view_is) (rw (c.put_behind.ensures.left c.if-put_behind.false) at c.push_elsewhere.ensures)
