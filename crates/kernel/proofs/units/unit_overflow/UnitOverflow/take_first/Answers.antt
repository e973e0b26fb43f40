use Rattle.kernel.proofs.UnitLemmas.{taken-unheaped, taken-queued}
use Rattle.kernel.proofs.InOrder.{first-unheaped, first-queued}
use Rattle.kernel.proofs.units.unit_overflow.UnitOverflow.take_first.Goals as goal

pub returns-then-has_before-clause-taken : goal.returns-then-has_before-clause-taken
returns-then-has_before-clause-taken c = rw (← c.self.view_is) (taken-unheaped _ _ _ _ c.pop-then-has_before.ensures.taken)

pub returns-then-has_before-clause-first : goal.returns-then-has_before-clause-first
returns-then-has_before-clause-first c =
    let before = c.has_before.ensures.before c.if-has_before.true in
    rw (← c.self.view_is) (first-unheaped _ _ _ before.0 c.in-Some.first before.1 before.2 c.in-Some.ensures.first c.pop-then-has_before.ensures.first)

pub returns-else-has_before-clause-first : goal.returns-else-has_before-clause-first
returns-else-has_before-clause-first c =
    rw (← c.self.view_is) (first-queued _ _ _ c.in-Some.first c.in-Some.ensures.there (c.has_before.ensures.none c.if-has_before.false) c.pop-else-has_before.ensures.first)

pub returns-else-has_before-clause-taken : goal.returns-else-has_before-clause-taken
returns-else-has_before-clause-taken c = rw (← c.self.view_is) (taken-queued _ _ _ _ c.pop-else-has_before.ensures.taken)
