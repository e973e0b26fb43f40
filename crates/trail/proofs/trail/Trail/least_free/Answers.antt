use Rattle.std.proofs.Common.{sym}
use Rattle.trail.proofs.NextFree.{least_free-next, least_free-past}
use Rattle.trail.proofs.trail.Trail.least_free.Goals as goal

pub returns-then-self : goal.returns-then-self
returns-then-self c = rw (← c.self.view_is) (sym (least_free-next _ _ _ c.self.invariant.4 c.if-self.true))

pub returns-else-self : goal.returns-else-self
returns-else-self c = rw (← c.self.view_is) (sym (least_free-past _ _ _ c.self.invariant.4 c.if-self.false))
