use Rattle.std.proofs.Common.{◌≡◌, ◌≢◌, ◌<◌, subst, sym, refl, length, Some, []}
use Rattle.std.specs.Prelude.{slice_get, slice_set}
use Rattle.std.proofs.lemmas.Option.{slice_get_read}
use Rattle.pool.specs.Hands.{HandView, SameHand, hand_view, IsHand, got_at_end}
use Rattle.pool.proofs.HandCalls.{Stealing, one_thief, stealing, still_hand, steal_same}
use Rattle.pool.proofs.hand.Hand.steal.Goals as goal

pub steal-requires-clause-hand : goal.steal-requires-clause-hand
steal-requires-clause-hand c =
    let i = c.self.inside in
    let w = c.index_mut-thief.result.now in
    let lt : c.args.from < length i.thieves.items = subst (λ (h : HandView). c.args.from < h.hands) (sym c.self.view_is) c.requires.hand in
    let ne : c.args.from ≢ i.number = subst (λ (h : HandView). c.args.from ≢ h.number) (sym c.self.view_is) c.requires.other in
    let at : slice_get i.thieves.items c.args.from ≡ Some w = slice_get_read i.thieves.items (length i.thieves.items) c.args.from w refl lt c.index_mut-thief.ensures.value in
    let is : IsHand i.number i.vars i.owner i.thieves.items i.words = c.self.invariant in
    (i.number, got_at_end w, [], (one_thief i.number i.vars i.owner i.thieves.items i.words is c.args.from w at ne).2)

pub steal-requires-clause-before : goal.steal-requires-clause-before
steal-requires-clause-before c =
    let i = c.self.inside in
    let w = c.index_mut-thief.result.now in
    let lt : c.args.from < length i.thieves.items = subst (λ (h : HandView). c.args.from < h.hands) (sym c.self.view_is) c.requires.hand in
    let ne : c.args.from ≢ i.number = subst (λ (h : HandView). c.args.from ≢ h.number) (sym c.self.view_is) c.requires.other in
    let at : slice_get i.thieves.items c.args.from ≡ Some w = slice_get_read i.thieves.items (length i.thieves.items) c.args.from w refl lt c.index_mut-thief.ensures.value in
    let is : IsHand i.number i.vars i.owner i.thieves.items i.words = c.self.invariant in
    (one_thief i.number i.vars i.owner i.thieves.items i.words is c.args.from w at ne).1

pub invariant_of-self : goal.invariant_of-self
invariant_of-self c =
    let i = c.self.inside in
    let w = c.index_mut-thief.result.now in
    let lt : c.args.from < length i.thieves.items = subst (λ (h : HandView). c.args.from < h.hands) (sym c.self.view_is) c.requires.hand in
    let ne : c.args.from ≢ i.number = subst (λ (h : HandView). c.args.from ≢ h.number) (sym c.self.view_is) c.requires.other in
    let at : slice_get i.thieves.items c.args.from ≡ Some w = slice_get_read i.thieves.items (length i.thieves.items) c.args.from w refl lt c.index_mut-thief.ensures.value in
    let is : IsHand i.number i.vars i.owner i.thieves.items i.words = c.self.invariant in
    still_hand i.number i.vars i.owner i.thieves.items i.words is c.args.from w at ne c.steal.new.self c.steal.result c.steal.ensures

pub returns-clause-taken : goal.returns-clause-taken
returns-clause-taken c =
    let i = c.self.inside in
    let w = c.index_mut-thief.result.now in
    let lt : c.args.from < length i.thieves.items = subst (λ (h : HandView). c.args.from < h.hands) (sym c.self.view_is) c.requires.hand in
    let ne : c.args.from ≢ i.number = subst (λ (h : HandView). c.args.from ≢ h.number) (sym c.self.view_is) c.requires.other in
    let at : slice_get i.thieves.items c.args.from ≡ Some w = slice_get_read i.thieves.items (length i.thieves.items) c.args.from w refl lt c.index_mut-thief.ensures.value in
    let is : IsHand i.number i.vars i.owner i.thieves.items i.words = c.self.invariant in
    subst (λ (h : HandView). Stealing h (hand_view i.number i.vars i.owner (slice_set i.thieves.items c.args.from c.steal.new.self) i.words) c.args.from c.steal.result) c.self.view_is
    (stealing i.number i.vars i.owner i.thieves.items i.words is c.args.from w at ne c.steal.new.self c.steal.result c.steal.ensures)

pub returns-clause-same : goal.returns-clause-same
returns-clause-same c =
    let i = c.self.inside in
    let w = c.index_mut-thief.result.now in
    let lt : c.args.from < length i.thieves.items = subst (λ (h : HandView). c.args.from < h.hands) (sym c.self.view_is) c.requires.hand in
    let ne : c.args.from ≢ i.number = subst (λ (h : HandView). c.args.from ≢ h.number) (sym c.self.view_is) c.requires.other in
    let at : slice_get i.thieves.items c.args.from ≡ Some w = slice_get_read i.thieves.items (length i.thieves.items) c.args.from w refl lt c.index_mut-thief.ensures.value in
    let is : IsHand i.number i.vars i.owner i.thieves.items i.words = c.self.invariant in
    subst (λ (h : HandView). SameHand h (hand_view i.number i.vars i.owner (slice_set i.thieves.items c.args.from c.steal.new.self) i.words)) c.self.view_is
    (steal_same _ _ c.args.from c.steal.result (stealing i.number i.vars i.owner i.thieves.items i.words is c.args.from w at ne c.steal.new.self c.steal.result c.steal.ensures))
