-- Once all hands' notes are together: each cube is there once, and all calls are in one order.
use Rattle.std.proofs.Common.{◌≡◌, ◌≢◌, ℕ, zero, suc, ◌<◌, ◌≤◌, cond, ne_eqb, List, [], ◌∷◌, ◌++◌, length, map, get_or, Some, Option, sym, refl, ap, ◌∙◌, subst, arith}
use Rattle.std.specs.Prelude.{slice_get}
use Rattle.std.proofs.lemmas.List.{length-map}
use Rattle.std.proofs.lemmas.Option.{slice_get-get_or, slice_get_within}
use mathlib.Core.Option.{some, some-ne-none}
use mathlib.Core.Logic.{dite}
use native.Mathlib.Decide.{ℕ_discrete}
use lib.ListN.{get_elem?}
use Rattle.std.specs.Global.{Vec}
use Rattle.atomic_table.specs.Seated.{TableId}
use Rattle.theory.specs.Ledger.{Ledger, got_from}
use Rattle.theory.specs.Order.{Words, entries_of, put_into, IsInOrder, IsEachOnce, IsAllOnce}
use Rattle.pool.specs.DequeNotes.{Cube}
use Rattle.pool.specs.Deque.{Emptied, Whole}
use Rattle.pool.specs.SeatNotes.{first_notes}
use Rattle.pool.specs.Words.{AllHere, Closes}
use Rattle.pool.specs.Ends.{DequeEnd, DequeId}
use Rattle.pool.specs.Hands.{HandView, got_at_end}
use Rattle.pool.specs.Pools.{roots_of}
use Rattle.pool.specs.Opening.{ids}
use Rattle.pool.specs.Closing.{AreNumbered, AreParts, calls_of, got_at, gots, Gathered, drained, Drained}
use Rattle.pool.proofs.HandCalls.{got_own, got_other, got_past}
use Rattle.pool.proofs.ListPlaces.{slice_get_some, slice_get_map, slice_get_unmap}
use Rattle.pool.proofs.Gathering.{got_at_is}
use Rattle.pool.proofs.Sharing.{ids_by}

abbrev pub ledgers_in : List HandView → List Ledger
ledgers_in hands = map (λ (h : HandView). h.ledger) hands

-- a note stands somewhere in the list
abbrev pub Has : {A : Type 0} → List A → A → Type 0
Has l a = (i : ℕ) × (get_elem? l i ≡ some a)

has_left : {A : Type 0} (l m : List A) (a : A) → Has l a → Has (l ++ m) a
has_left [] m a h = absurd (some-ne-none a (sym h.1))
has_left (x ∷ xs) m a (zero, e) = (0, e)
has_left (x ∷ xs) m a (suc i, e) = let r = has_left xs m a (i, e) in (suc r.0, r.1)

has_right : {A : Type 0} (l m : List A) (a : A) → Has m a → Has (l ++ m) a
has_right [] m a h = h
has_right (x ∷ xs) m a h = let r = has_right xs m a h in (suc r.0, r.1)

has_gots : (rows : List (Vec DequeEnd)) (h : ℕ) (r : Vec DequeEnd) (d : ℕ) (n : ℕ × List Cube) → slice_get rows h ≡ Some r → Has (got_at r.items d) n → Has (gots rows d) n
has_gots [] h r d n e a = absurd (cc)
has_gots (x ∷ xs) zero r d n e a = let same : r ≡ x = cc in has_left (got_at x.items d) (gots xs d) n (subst (λ (y : Vec DequeEnd). Has (got_at y.items d) n) same a)
has_gots (x ∷ xs) (suc h) r d n e a = has_right (got_at x.items d) (gots xs d) n (has_gots xs h r d n e a)

pub elem_at : {A B : Type 0} (f : A → B) (l : List A) (i : ℕ) (a : A) → slice_get l i ≡ Some a → get_elem? (map f l) i ≡ some (f a)
elem_at f [] i a e = absurd (cc)
elem_at f (x ∷ xs) zero a e = let same : x ≡ a = cc in ap (λ (y : _). some (f y)) same
elem_at f (x ∷ xs) (suc i) a e = elem_at f xs i a e

module _ (table : TableId) (hands : List HandView) (owners : List DequeEnd) (rows : List (Vec DequeEnd)) (new : List DequeEnd) (all : AreNumbered table hands) (parts : AreParts hands owners rows) (gathered : Gathered owners rows new) where
  -- the owner of the hand d, once it has all notes
  whole_owner : (d : ℕ) (own : HandView) (at : slice_get hands d ≡ Some own) → DequeEnd
  whole_owner d own at = let p = parts.2 d own at in record p.0 { notes = record p.0.notes { got = p.0.notes.got ++ gots rows d } }

  -- the notes of each hand are in it
  has_note : (d : ℕ) (own : HandView) (at : slice_get hands d ≡ Some own) (h : ℕ) (v : HandView) → slice_get hands h ≡ Some v → Has (whole_owner d own at).notes.got (v.number, got_from own.number v.ledger)
  unfolding whole_owner
  has_note d own at h v there = dite (ℕ_discrete own.number v.number)
      (λ (q : own.number ≡ v.number).
      let p = parts.2 d own at in
      let same : own ≡ v = some_is own v (sym at ∙ ap (slice_get hands) (sym (all d own at).0 ∙ q ∙ (all h v there).0) ∙ there) in
      let got : got_at_end p.0 ≡ got_from own.number own.ledger = sym (got_own own.number own.vars p.0 p.1.items p.2 p.5) ∙ ap (λ (u : HandView). got_from own.number u.ledger) p.6 in
      let mine : Has p.0.notes.got (own.number, got_from own.number own.ledger) = (0, ap (λ (l : List (ℕ × List Cube)). get_elem? l 0) p.5.1.2 ∙ ap (λ (l : List Cube). some (own.number, l)) got) in
      has_left p.0.notes.got (gots rows d) (v.number, got_from own.number v.ledger)
      (subst (λ (x : ℕ × List Cube). Has p.0.notes.got x) (λ i. (q i, got_from own.number (same i).ledger)) mine))
      (λ (q : own.number ≢ v.number).
      let p = parts.2 d own at in
      let o = parts.2 h v there in
      let len : length o.1.items ≡ length hands = ap (λ (u : HandView). u.hands) o.6 ∙ (all h v there).1 in
      let lt : d < length o.1.items = let w = slice_get_within hands d own at in omega arith in
      let w : DequeEnd = get_or o.1.items d p.0 in
      let there_w : slice_get o.1.items d ≡ Some w = slice_get-get_or o.1.items d p.0 lt in
      let num : own.number ≡ d = (all d own at).0 in
      let is_of = o.5.4 d w there_w (λ e. q (num ∙ e)) in
      let stolen : got_at_end w ≡ got_from own.number v.ledger =
      sym (got_other v.number v.vars o.0 o.1.items o.2 o.5 d w there_w (λ e. q (num ∙ e))) ∙ ap (λ (u : HandView). got_from d u.ledger) o.6 ∙ ap (λ (k : ℕ). got_from k v.ledger) (sym num) in
      let here : Has (got_at o.1.items d) (v.number, got_at_end w) = (0, ap (λ (l : List (ℕ × List Cube)). get_elem? l 0) (got_at_is o.1.items d w there_w ∙ is_of.2)) in
      has_right p.0.notes.got (gots rows d) (v.number, got_from own.number v.ledger)
      (subst (λ (x : List Cube). Has (gots rows d) (v.number, x)) stolen (has_gots rows h o.1 d (v.number, got_at_end w) o.4 here)))
    where
      some_is : (s t : HandView) → Some s ≡ Some t → s ≡ t
      some_is s t e = cc

  owner_made : (d : ℕ) (own : HandView) (at : slice_get hands d ≡ Some own) → (whole_owner d own at).notes.made ≡ length hands
  unfolding whole_owner
  owner_made d own at = let p = parts.2 d own at in p.5.2 ∙ ap (λ (u : HandView). u.hands) p.6 ∙ (all d own at).1

  owner_at : (d : ℕ) (own : HandView) (at : slice_get hands d ≡ Some own) → slice_get new d ≡ Some (whole_owner d own at)
  unfolding whole_owner
  owner_at d own at = let p = parts.2 d own at in gathered.1 d p.0 p.3

  hand_at : (d : ℕ) → d < length hands → (v : HandView) × (slice_get hands d ≡ Some v)
  hand_at d lt = slice_get_some hands d lt

  pub whole : (d : ℕ) (l : DequeEnd) → slice_get new d ≡ Some l → Whole l.notes
  whole d l e =
      let lt : d < length hands = let w = slice_get_within new d l e in let p = parts.0 in let g = gathered.0 in omega arith in
      let own = hand_at d lt in
      let same : whole_owner d own.0 own.1 ≡ l = some_is (whole_owner d own.0 own.1) l (sym (owner_at d own.0 own.1) ∙ e) in
      subst (λ (x : DequeEnd). Whole x.notes) same
      (λ k below. let v = hand_at k (subst (λ (n : ℕ). k < n) (owner_made d own.0 own.1) below) in
      let h = has_note d own.0 own.1 k v.0 v.1 in
      (h.0, got_from own.0.number v.0.ledger, h.1 ∙ ap (λ (n : ℕ). some (n, got_from own.0.number v.0.ledger)) (all k v.0 v.1).0))
    where
      some_is : (s t : DequeEnd) → Some s ≡ Some t → s ≡ t
      some_is s t e = cc

  module _ (root : Cube) (rooted : (h : ℕ) (v : HandView) → slice_get hands h ≡ Some v → v.roots ≡ roots_of root v.number) where
    put_is : (d : ℕ) (l : Ledger) → roots_of root d ++ l.put ≡ put_into root d l
    put_is zero l = refl
    put_is (suc d) l = ap (λ b. cond b (root ∷ []) [] ++ l.put) (ne_eqb (suc d) 0 (λ p. omega arith))

    each_once : (d : ℕ) (own : HandView) (at : slice_get hands d ≡ Some own) (cs : List Cube) → Emptied (drained (whole_owner d own at).notes cs) → IsEachOnce (ledgers_in hands) d (put_into root d own.ledger) cs
    unfolding whole_owner
    each_once d own at cs e = let p = parts.2 d own at in let num : own.number ≡ d = (all d own at).0 in record {
      order = e.0;
      of_got = record {
        each = λ hand l there. let v = slice_get_unmap (λ (h : HandView). h.ledger) hands hand l there in
            let n = has_note d own at hand v.0 v.1 in
            ap (λ (k : ℕ). entries_of k e.0) (sym (all hand v.0 v.1).0) ∙ e.3 n.0 (v.0.number, got_from own.number v.0.ledger) n.1 ∙ ap (λ (k : ℕ). got_from k v.0.ledger) num ∙ ap (got_from d) v.2;
        no_other = λ k le. e.2 k (subst (λ (n : ℕ). n ≤ k) (length-map hands (λ (h : HandView). h.ledger) ∙ sym (owner_made d own at)) le);
      };
      is_put = ap (λ (l : List Cube). map (λ o. o.1) e.0 ++ (l ++ cs)) (sym p.5.1.1) ∙ e.1 ∙ ap (λ (u : HandView). u.roots ++ u.ledger.put) p.6
          ∙ ap (λ (l : List Cube). l ++ own.ledger.put) (rooted d own at ∙ ap (roots_of root) num) ∙ put_is d own.ledger;
    }

    pub all_once : (left : List Cube) → Drained new (length new) left → IsAllOnce root (ledgers_in hands) left
    all_once left h = record {
      lefts = h.0;
      are_left = h.1;
      a_deque_each = h.2 ∙ gathered.0 ∙ parts.0 ∙ sym (length-map hands (λ (u : HandView). u.ledger));
      each = λ d l cs at there. let v = slice_get_unmap (λ (u : HandView). u.ledger) hands d l at in
          subst (λ (m : Ledger). IsEachOnce (ledgers_in hands) d (put_into root d m) cs) v.2 (each_once d v.0 v.1 cs (h.3 d (whole_owner d v.0 v.1) cs (owner_at d v.0 v.1) there));
      no_other = λ hand d l at le. let v = slice_get_unmap (λ (u : HandView). u.ledger) hands hand l at in
          let o = parts.2 hand v.0 v.1 in
          let many : length o.1.items ≡ length (ledgers_in hands) = ap (λ (u : HandView). u.hands) o.6 ∙ (all hand v.0 v.1).1 ∙ sym (length-map hands (λ (u : HandView). u.ledger)) in
          ap (got_from d) (sym v.2) ∙ ap (λ (u : HandView). got_from d u.ledger) (sym o.6) ∙ got_past v.0.number v.0.vars o.0 o.1.items o.2 o.5 d (subst (λ (n : ℕ). n ≤ d) (sym many) le);
    }

  pub all_here : AllHere (record (first_notes (length hands)) { calls = calls_of hands })
  all_here k below = let v = hand_at k below in (k, v.0.ledger.calls, elem_at (λ (u : HandView). (u.number, u.ledger.calls)) hands k v.0 v.1 ∙ ap (λ (n : ℕ). some (n, v.0.ledger.calls)) (all k v.0 v.1).0)

  pub in_order : (t : Words) (least : Option ℕ) (undone : ℕ) → least ≡ t.least → undone ≡ t.undone → Closes (length hands) (calls_of hands) t → IsInOrder (ledgers_in hands) least undone
  in_order t least undone l u c = record {
    order = c.0;
    of_calls = record {
      each = λ hand m at. let v = slice_get_unmap (λ (h : HandView). h.ledger) hands hand m at in
          ap (λ (k : ℕ). entries_of k c.0) (sym (all hand v.0 v.1).0) ∙ c.3 hand (v.0.number, v.0.ledger.calls) (elem_at (λ (w : HandView). (w.number, w.ledger.calls)) hands hand v.0 v.1) ∙ ap (λ (k : Ledger). k.calls) v.2;
      no_other = λ k le. c.2 k (subst (λ (n : ℕ). n ≤ k) (length-map hands (λ (h : HandView). h.ledger)) le);
    };
    replays = c.1;
    least_is = ap (λ (x : Words). x.least) c.4 ∙ sym l;
    undone_is = ap (λ (x : Words). x.undone) c.4 ∙ sym u;
  }

-- all hands share one list of deques, which is that of their own
pub row_ids : (table : TableId) (hands : List HandView) (owners : List DequeEnd) (rows : List (Vec DequeEnd)) (deques : List DequeId) → AreNumbered table hands → AreParts hands owners rows → ((h : ℕ) (v : HandView) → slice_get hands h ≡ Some v → v.deques ≡ deques)
    → (h : ℕ) (r : Vec DequeEnd) → slice_get rows h ≡ Some r → ids r.items ≡ ids owners
row_ids table hands owners rows deques all parts one h r at =
    let lt : h < length hands = let w = slice_get_within rows h r at in let p = parts.1 in omega arith in
    mine h r at lt ∙ sym (ids_by owners deques (len h lt) each)
  where
    some_is : {A : Type 0} (s t : A) → Some s ≡ Some t → s ≡ t
    some_is s t e = cc

    row_of : (k : ℕ) (v : HandView) (e : slice_get hands k ≡ Some v) → ids (parts.2 k v e).1.items ≡ deques
    row_of k v e = ap (λ (u : HandView). u.deques) (parts.2 k v e).6 ∙ one k v e

    mine : (k : ℕ) (x : Vec DequeEnd) → slice_get rows k ≡ Some x → k < length hands → ids x.items ≡ deques
    mine k x e b = let v = slice_get_some hands k b in let p = parts.2 k v.0 v.1 in ap (λ (y : Vec DequeEnd). ids y.items) (some_is x p.1 (sym e ∙ p.4)) ∙ row_of k v.0 v.1

    len : (k : ℕ) → k < length hands → length owners ≡ length deques
    len k b = let v = slice_get_some hands k b in let p = parts.2 k v.0 v.1 in
        parts.0 ∙ sym (all k v.0 v.1).1 ∙ sym (ap (λ (u : HandView). u.hands) p.6) ∙ sym (length-map p.1.items (λ (e : DequeEnd). e.id)) ∙ ap length (row_of k v.0 v.1)

    each : (d : ℕ) (l : DequeEnd) → slice_get owners d ≡ Some l → slice_get deques d ≡ Some l.id
    each d l e =
        let b : d < length hands = let w = slice_get_within owners d l e in let p = parts.0 in omega arith in
        let v = slice_get_some hands d b in
        let p = parts.2 d v.0 v.1 in
        let same : p.0 ≡ l = some_is p.0 l (sym p.3 ∙ e) in
        let lt : v.0.number < length p.1.items = p.5.0 in
        let w : DequeEnd = get_or p.1.items v.0.number p.0 in
        let there : slice_get p.1.items v.0.number ≡ Some w = slice_get-get_or p.1.items v.0.number p.0 lt in
        ap (slice_get deques) (sym (all d v.0 v.1).0) ∙ ap (λ (x : List DequeId). slice_get x v.0.number) (sym (row_of d v.0 v.1)) ∙ slice_get_map (λ (y : DequeEnd). y.id) p.1.items v.0.number w there
        ∙ ap Some ((p.5.3 w there).0 ∙ ap (λ (y : DequeEnd). y.id) same)
