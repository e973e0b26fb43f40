use Rattle.std.proofs.Common.{◌≡◌, ℕ, ◌+◌, ◌<◌, ◌∷◌, [], ◌++◌, length, get_or, drop, Some, subst, ap, sym, ◌∙◌, arith, rules, add-one, List}
use Rattle.std.specs.Prelude.{slice_get}
use Rattle.pool.specs.Ends.{DequeEnd}
use Rattle.std.specs.Global.{Vec}
use Rattle.pool.specs.SeatNotes.{hand_notes}
use Rattle.pool.specs.Words.{SeatView}
use Rattle.pool.specs.Opening.{AreRootless, ids, rootless_hand}
use Rattle.pool.proofs.ListPlaces.{first_left, rest_left}
use Rattle.pool.proofs.Sharing.{here_of, same_len, made_hand, made_view, new_more}
use Rattle.pool.proofs.opening.hands.Goals as goal

pub new-requires : goal.new-requires
new-requires c =
    let i = c.hands.invariant in
    let n = length c.args.owners.items in
    let h = c.hands.h in
    let lt : h < n = omega arith in
    let rlt : h < length c.args.rows.items = let e = c.requires.rows.1 in omega arith in
    let owner = c.remove-owner.result in
    let thieves = c.remove-thieves.result in
    let at : slice_get c.args.owners.items h ≡ Some owner = first_left c.args.owners.items h owner lt (subst (λ (l : List DequeEnd). owner ≡ get_or l 0 owner) i.0 c.remove-owner.ensures.value) in
    let rat : slice_get c.args.rows.items h ≡ Some thieves = first_left c.args.rows.items h thieves rlt (subst (λ (l : List (Vec DequeEnd)). thieves ≡ get_or l 0 thieves) i.1 c.remove-thieves.ensures.value) in
    let row = c.requires.rows.0 h thieves rat in
    let seat : c.in_ok-seat.seat ≡ record { table = c.args.words.now.table; notes = hand_notes h } = c.in_ok-seat.ensures.hand ∙ ap (λ (s : SeatView). record { table = s.table; notes = hand_notes s.notes.made }) i.2 in
    made_hand n c.args.vars h owner thieves.items c.in_ok-seat.seat (ids c.args.owners.items) c.args.words.now.table lt (c.requires.owners h owner at) (same_len thieves.items c.args.owners.items row.1) row.0 (here_of thieves.items c.args.owners.items h owner at row.1) row.1 seat

pub hands-preserved : goal.hands-preserved
hands-preserved c =
    let i = c.hands.invariant in
    let n = length c.args.owners.items in
    let h = c.hands.h in
    let lt : h < n = omega arith in
    let rlt : h < length c.args.rows.items = let e = c.requires.rows.1 in omega arith in
    let owner = c.remove-owner.result in
    let thieves = c.remove-thieves.result in
    let at : slice_get c.args.owners.items h ≡ Some owner = first_left c.args.owners.items h owner lt (subst (λ (l : List DequeEnd). owner ≡ get_or l 0 owner) i.0 c.remove-owner.ensures.value) in
    let rat : slice_get c.args.rows.items h ≡ Some thieves = first_left c.args.rows.items h thieves rlt (subst (λ (l : List (Vec DequeEnd)). thieves ≡ get_or l 0 thieves) i.1 c.remove-thieves.ensures.value) in
    let row = c.requires.rows.0 h thieves rat in
    let seat : c.in_ok-seat.seat ≡ record { table = c.args.words.now.table; notes = hand_notes h } = c.in_ok-seat.ensures.hand ∙ ap (λ (s : SeatView). record { table = s.table; notes = hand_notes s.notes.made }) i.2 in
    let made : c.new.result ≡ rootless_hand n c.args.vars (ids c.args.owners.items) c.args.words.now.table h =
    c.new.ensures ∙ made_view n c.args.vars h owner thieves.items c.in_ok-seat.seat (ids c.args.owners.items) c.args.words.now.table lt (c.requires.owners h owner at) (same_len thieves.items c.args.owners.items row.1) row.0 (here_of thieves.items c.args.owners.items h owner at row.1) row.1 seat in
    let pushed : c.push.new.self.items ≡ c.hands.hands.items ++ c.new.result ∷ [] = search rules in (
      c.remove-owner.ensures.items ∙ ap (drop 1) i.0 ∙ rest_left c.args.owners.items h ∙ ap (λ (k : ℕ). drop k c.args.owners.items) (sym (add-one h)),
      c.remove-thieves.ensures.items ∙ ap (drop 1) i.1 ∙ rest_left c.args.rows.items h ∙ ap (λ (k : ℕ). drop k c.args.rows.items) (sym (add-one h)),
      c.in_ok-seat.ensures.first ∙ ap (λ (s : SeatView). record s { notes = record s.notes { made = s.notes.made + 1 } }) i.2,
      subst (AreRootless n c.args.vars (ids c.args.owners.items) c.args.words.now.table) (sym pushed) (new_more n c.args.vars (ids c.args.owners.items) c.args.words.now.table c.hands.hands.items c.new.result (made ∙ ap (rootless_hand n c.args.vars (ids c.args.owners.items) c.args.words.now.table) (sym i.4)) i.3),
      search rules,
    )
