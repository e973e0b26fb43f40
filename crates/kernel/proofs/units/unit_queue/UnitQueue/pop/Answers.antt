use Rattle.kernel.proofs.UnitLemmas.{taken-unheaped}
use Rattle.kernel.proofs.InOrder.{first-unheaped}
use Rattle.kernel.proofs.units.unit_queue.UnitQueue.pop.Goals as goal

pub returns-then-has_before-clause-taken : goal.returns-then-has_before-clause-taken
returns-then-has_before-clause-taken c = rw (← c.self.view_is) (taken-unheaped _ _ _ _ c.pop-then-has_before.ensures.taken)

pub returns-then-has_before-clause-first : goal.returns-then-has_before-clause-first
returns-then-has_before-clause-first c =
    let before = c.has_before.ensures.before c.if-has_before.true in
    rw (← c.self.view_is) (first-unheaped _ _ _ before.0 c.in-Some.first before.1 before.2 c.in-Some.ensures.first c.pop-then-has_before.ensures.first)
