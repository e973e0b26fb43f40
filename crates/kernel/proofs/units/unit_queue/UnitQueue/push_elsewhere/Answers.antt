use Rattle.std.proofs.lemmas.List.Sorted.{IsPermutation-append_left}
use Rattle.kernel.proofs.UnitLemmas.{heaped-units, queued-units}
use Rattle.kernel.proofs.units.unit_queue.UnitQueue.push_elsewhere.Goals as goal

pub returns-then-takes : goal.returns-then-takes
returns-then-takes c = rw (← c.self.view_is, c.in_ok-push.ensures) (queued-units _ _ _)

pub returns-then-place-eq0 : goal.returns-then-place-eq0
returns-then-place-eq0 c = rw (c.if-place-eq0.true, ← c.self.view_is) (heaped-units _ _ _ _ c.in_ok-push_numbered.ensures)

pub returns-then-branch : goal.returns-then-branch
returns-then-branch c = rw (← c.self.view_is) (IsPermutation-append_left _ _ _ (c.in_ok-put.ensures.put c.if-branch.true))

pub returns : goal.returns
returns c = rw (← c.self.view_is, c.in_ok-put.ensures.left c.if-branch.false) (heaped-units _ _ _ _ c.in_ok-push_placed.ensures)
