use Rattle.std.proofs.Common.{◌≡◌, ℕ, ◌+◌, ◌-◌, ◌<◌, ◌++◌, ◌∷◌, [], length, get_or, drop, take, Some, subst, ap, refl, sym, ◌∙◌, arith, rules, add-one, List, length-drop}
use Rattle.std.specs.Prelude.{slice_get}
use Rattle.std.proofs.lemmas.List.{take_more, take_all}
use Rattle.std.proofs.lemmas.Option.{get_or_from_slice_get}
use Rattle.std.specs.Global.{Vec}
use Rattle.pool.specs.Ends.{DequeEnd}
use Rattle.pool.specs.SeatNotes.{SeatNotes}
use Rattle.pool.specs.Words.{SeatView, both_calls}
use Rattle.pool.specs.Hands.{HandView}
use Rattle.pool.specs.Closing.{AreParts, calls_of}
use Rattle.pool.proofs.ListPlaces.{first_left, rest_left}
use Rattle.pool.proofs.Gathering.{parts_more, calls_more}
use Rattle.pool.proofs.closing.take_apart.Goals as goal

pub join-requires-clause-table : goal.join-requires-clause-table
join-requires-clause-table c =
    let i = c.take_apart.invariant in
    let k = c.take_apart.counter in
    let v = c.remove.result in
    let at : slice_get c.args.hands.items k ≡ Some v = first_left c.args.hands.items k v (omega arith) (subst (λ (l : List HandView). v ≡ get_or l 0 v) i.0 c.remove.ensures.value) in
    ap (λ (h : HandView). h.table) c.split-owner.ensures.same ∙ (c.requires.hands k v at).2 ∙ sym i.2

pub take_apart-preserved : goal.take_apart-preserved
take_apart-preserved c =
    let i = c.take_apart.invariant in
    let k = c.take_apart.counter in
    let v = c.remove.result in
    let start = c.args.hands.items in
    let s = c.split-owner.result in
    let e = c.split-owner.ensures in
    let lt : k < length start = omega arith in
    let at : slice_get start k ≡ Some v = first_left start k v lt (subst (λ (l : List HandView). v ≡ get_or l 0 v) i.0 c.remove.ensures.value) in
    let more : take (k + 1) start ≡ take k start ++ v ∷ [] = take_more start k v lt ∙ ap (λ (x : HandView). take k start ++ x ∷ []) (get_or_from_slice_get start k v v at) in
    let owners : c.push.new.self.items ≡ c.take_apart.owners.items ++ s.0 ∷ [] = search rules in
    let rows : c.push-in-take_apart.new.self.items ≡ c.take_apart.rows.items ++ s.1 ∷ [] = search rules in (
      c.remove.ensures.items ∙ ap (drop 1) i.0 ∙ rest_left start k ∙ ap (λ (n : ℕ). drop n start) (sym (add-one k)),
      subst (λ (l : List HandView). AreParts l c.push.new.self.items c.push-in-take_apart.new.self.items) (sym more)
          (subst (λ (l : List DequeEnd). AreParts (take k start ++ v ∷ []) l c.push-in-take_apart.new.self.items) (sym owners)
          (subst (λ (l : List (Vec DequeEnd)). AreParts (take k start ++ v ∷ []) (c.take_apart.owners.items ++ s.0 ∷ []) l) (sym rows)
          (parts_more (take k start) c.take_apart.owners.items c.take_apart.rows.items v s.0 s.1 s.2 e.parts e.same i.1))),
      ap (λ (b : SeatView). b.table) c.join.ensures ∙ i.2,
      ap (λ (b : SeatView). b.notes) c.join.ensures ∙ ap (λ (n : SeatNotes). both_calls n s.2.notes) i.3 ∙ ap (λ (l : _). record c.args.words.now.notes { calls = l }) (calls_more (take k start) v s.0 s.1.items s.2 e.parts e.same ∙ ap calls_of (sym more)),
    )

pub take_apart-init : goal.take_apart-init
take_apart-init c = (
  refl,
  (ap length c.new-owners.ensures.items, ap length c.new-rows.ensures.items, λ h v e. absurd (cc)),
  refl,
  c.requires.seats ∙ ap (λ (n : SeatNotes). record n { calls = [] }) (sym c.requires.seats),
)

pub remove-requires : goal.remove-requires
remove-requires c =
    let left : length c.take_apart.hands.items ≡ length c.args.hands.items - c.take_apart.counter = ap length c.take_apart.invariant.0 ∙ length-drop c.take_apart.counter c.args.hands.items in
    omega arith

pub join-requires-clause-first : goal.join-requires-clause-first
join-requires-clause-first c = ap (λ (n : SeatNotes). n.is_first) c.take_apart.invariant.3 ∙ ap (λ (n : SeatNotes). n.is_first) c.requires.seats

pub returns-clause-parts : goal.returns-clause-parts
returns-clause-parts c =
    subst (λ (l : List HandView). AreParts l c.take_apart.owners.items c.take_apart.rows.items) (take_all c.take_apart.counter c.args.hands.items (omega arith)) c.take_apart.invariant.1

pub returns-clause-seats : goal.returns-clause-seats
returns-clause-seats c =
    let i = c.take_apart.invariant in
    (i.2, i.3 ∙ ap (λ (l : List HandView). record c.args.words.now.notes { calls = calls_of l }) (take_all c.take_apart.counter c.args.hands.items (omega arith)))
