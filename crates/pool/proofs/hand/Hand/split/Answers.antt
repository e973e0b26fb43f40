use Rattle.std.proofs.Common.{subst}
use Rattle.pool.specs.Hands.{HandView, IsHand}
use Rattle.pool.proofs.hand.Hand.split.Goals as goal

pub returns-clause-parts : goal.returns-clause-parts
returns-clause-parts c = subst (λ (h : HandView). IsHand h.number h.vars c.self.inside.owner c.self.inside.thieves.items c.self.inside.words) c.self.view_is c.self.invariant
