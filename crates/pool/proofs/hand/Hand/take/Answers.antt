use Rattle.std.proofs.Common.{◌≡◌, subst}
use Rattle.pool.specs.Hands.{HandView, IsNextOf, SameHand, hand_view}
use Rattle.pool.proofs.HandCalls.{Taking, took, alone, take_same}
use Rattle.pool.proofs.hand.Hand.take.Goals as goal

pub returns-clause-alone : goal.returns-clause-alone
returns-clause-alone c =
    let i = c.self.inside in
    let t : Taking (hand_view i.number i.vars i.owner i.thieves.items i.words) (hand_view i.number i.vars c.take.new.self i.thieves.items i.words) c.take.result = took i.number i.vars i.owner i.thieves.items i.words c.self.invariant c.take.new.self c.take.result c.take.ensures in
    subst (λ (h : HandView). h.hands ≡ 1 → IsNextOf h c.take.result) c.self.view_is (alone _ _ c.take.result c.self.invariant.0 t)

pub returns-clause-taken : goal.returns-clause-taken
returns-clause-taken c =
    let i = c.self.inside in
    let t : Taking (hand_view i.number i.vars i.owner i.thieves.items i.words) (hand_view i.number i.vars c.take.new.self i.thieves.items i.words) c.take.result = took i.number i.vars i.owner i.thieves.items i.words c.self.invariant c.take.new.self c.take.result c.take.ensures in
    subst (λ (h : HandView). Taking h (hand_view i.number i.vars c.take.new.self i.thieves.items i.words) c.take.result) c.self.view_is t

pub returns-clause-same : goal.returns-clause-same
returns-clause-same c =
    let i = c.self.inside in
    let t : Taking (hand_view i.number i.vars i.owner i.thieves.items i.words) (hand_view i.number i.vars c.take.new.self i.thieves.items i.words) c.take.result = took i.number i.vars i.owner i.thieves.items i.words c.self.invariant c.take.new.self c.take.result c.take.ensures in
    subst (λ (h : HandView). SameHand h (hand_view i.number i.vars c.take.new.self i.thieves.items i.words)) c.self.view_is (take_same _ _ c.take.result t)
