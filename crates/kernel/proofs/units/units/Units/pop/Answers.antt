use Rattle.kernel.proofs.UnitLemmas.{taken-unheaped, least-unheaped}
use Rattle.kernel.proofs.units.units.Units.pop.Goals as goal

pub returns-then-has_below-clause-taken : goal.returns-then-has_below-clause-taken
returns-then-has_below-clause-taken c = rw (← c.self.view_is) (taken-unheaped _ _ _ _ c.take_least-then-has_below.ensures.taken)

pub returns-then-has_below-clause-least : goal.returns-then-has_below-clause-least
returns-then-has_below-clause-least c =
    let below = c.has_below.ensures.below c.if-has_below.true in
    rw (← c.self.view_is) (least-unheaped _ _ _ below.0 c.in-Some.first below.1 below.2 c.in-Some.ensures.least c.take_least-then-has_below.ensures.least)
