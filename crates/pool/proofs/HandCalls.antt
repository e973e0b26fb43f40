-- A hand's calls, over its parts as plain data.
use Rattle.std.proofs.Common.{◌≡◌, ◌≢◌, ℕ, ◌<◌, ◌≤◌, List, [], ◌∷◌, ◌++◌, length, map, set, get_or, Option, Some, None, Result, Ok, Err, MatchOption, MatchResult, sym, ap, ◌∙◌, subst, ⊎_elim, arith, append-nil}
use Rattle.std.specs.Prelude.{slice_get}
use Rattle.std.proofs.lemmas.List.{map-set, length-set, length-map, set-get_or, set-set, set_comm, get_or-set_same, get_or-set_other}
use Rattle.std.proofs.Math.Seq.{map-set_same}
use Rattle.std.proofs.lemmas.Option.{slice_get_within, get_or_from_slice_get}
use mathlib.Core.Option.{some}
use lib.ListN.{get_elem?}
use Rattle.theory.specs.Ledger.{Call, Ledger, IsFit, got_from, both, putting, getting, calling, from_deque}
use Rattle.theory.specs.Order.{entries_of}
use Rattle.theory.proofs.hands.Joining.{both-nil, both-from_deque}
use Rattle.pool.specs.DequeNotes.{Cube, with_more}
use Rattle.pool.specs.Deque.{Emptied, EmptyThen, Fronts}
use Rattle.pool.specs.declared.taken.Taken.{Taken}
use Rattle.pool.specs.declared.taken.Taken.TheVariants.{Got, Empty, Again}
use Rattle.pool.specs.Ends.{DequeEnd, MatchTaken, with_put, with_got}
use Rattle.pool.specs.Words.{SeatView, own_calls, called, with_call}
use Rattle.pool.specs.Hands.{HandView, hand_view, first_got, got_at_end, adds, IsOf, IsHand, IsAllTaken, IsAllStolen, IsFront, IsNextOf, SameHand}
use Rattle.pool.proofs.Tallies.{entries-alone}
use Rattle.pool.proofs.ListPlaces.{slice_get_set, map_at, get_or_past}

-- the notes of one hand
of_one : (number vars : ℕ) (e : DequeEnd) (order : List (ℕ × Cube)) → IsOf number vars e → ((i : ℕ) (n : ℕ × List Cube) → get_elem? e.notes.got i ≡ some n → entries_of n.0 order ≡ n.1) → entries_of number order ≡ got_at_end e
of_one number vars e order is h = h 0 (number, first_got e.notes.got) (ap (λ (l : List (ℕ × List Cube)). get_elem? l 0) is.2)

with_one : (number vars : ℕ) (e : DequeEnd) (c : Cube) → IsOf number vars e → first_got (with_more (c ∷ []) e.notes.got) ≡ got_at_end e ++ c ∷ []
with_one number vars e c is = ap (λ (l : List (ℕ × List Cube)). first_got (with_more (c ∷ []) l)) is.2

abbrev pub Took : DequeEnd → DequeEnd → Option Cube → Type 0
Took owner new r = MatchOption r ((new ≡ owner) × Emptied owner.notes) (λ c. IsFit owner.notes.vars c × Fronts owner.notes (c ∷ []) × (new ≡ with_got owner c))

abbrev pub Taking : HandView → HandView → Option Cube → Type 0
Taking old new r = MatchOption r ((new ≡ old) × IsAllTaken old) (λ c. IsFit old.vars c × IsFront old c × (new ≡ adds old (getting old.number c)))

-- one entry more in the ledger
adds-calling : (h : HandView) (c : Call) → record h { ledger = record h.ledger { calls = h.ledger.calls ++ c ∷ [] } } ≡ adds h (calling c)
adds-calling h c = λ i. record h { ledger = record { put = sym (append-nil h.ledger.put) i; got = sym (both-nil h.ledger.got) i; calls = h.ledger.calls ++ c ∷ [] } }

adds-putting : (h : HandView) (Q : Cube) → record h { ledger = record h.ledger { put = h.ledger.put ++ Q ∷ [] } } ≡ adds h (putting Q)
adds-putting h Q = λ i. record h { ledger = record { put = h.ledger.put ++ Q ∷ []; got = sym (both-nil h.ledger.got) i; calls = sym (append-nil h.ledger.calls) i } }

adds-getting : (h : HandView) (d : ℕ) (Q : Cube) → record h { ledger = record h.ledger { got = both h.ledger.got (from_deque d (Q ∷ [])) } } ≡ adds h (getting d Q)
adds-getting h d Q = λ i. record h { ledger = record { put = sym (append-nil h.ledger.put) i; got = both h.ledger.got (from_deque d (Q ∷ [])); calls = sym (append-nil h.ledger.calls) i } }

-- what the hands got, deque by deque, where one took a cube itself, and where it stole one
got-taken : (got : List (List Cube)) (n : ℕ) (own : List Cube) (Q : Cube) → n < length got → set got n (own ++ Q ∷ []) ≡ both (set got n own) (from_deque n (Q ∷ []))
got-taken got n own Q lt = sym (
    both-from_deque (set got n own) n Q (subst (λ k. n < k) (sym (length-set got n own)) lt)
    ∙ ap (λ (x : List Cube). set (set got n own) n (x ++ Q ∷ [])) (get_or-set_same got n own [] lt) ∙ set-set got n own (own ++ Q ∷ []))

got-stolen : (got : List (List Cube)) (from n : ℕ) (own : List Cube) (Q : Cube) → from < length got → from ≢ n → set (set got from (get_or got from [] ++ Q ∷ [])) n own ≡ both (set got n own) (from_deque from (Q ∷ []))
got-stolen got from n own Q lt other =
    set_comm got from n (get_or got from [] ++ Q ∷ []) own other
    ∙ ap (λ (x : List Cube). set (set got n own) from (x ++ Q ∷ [])) (sym (get_or-set_other got n from own [] other))
    ∙ sym (both-from_deque (set got n own) from Q (subst (λ k. from < k) (sym (length-set got n own)) lt))

module _ (number vars : ℕ) (owner : DequeEnd) (thieves : List DequeEnd) (words : SeatView) (is : IsHand number vars owner thieves words) where
  in_got : number < length (map got_at_end thieves)
  in_got = subst (λ (k : ℕ). number < k) (sym (length-map thieves got_at_end)) is.0

  pub got_own : got_from number (hand_view number vars owner thieves words).ledger ≡ got_at_end owner
  got_own = get_or-set_same (map got_at_end thieves) number (got_at_end owner) [] in_got

  pub got_other : (d : ℕ) (t : DequeEnd) → slice_get thieves d ≡ Some t → d ≢ number → got_from d (hand_view number vars owner thieves words).ledger ≡ got_at_end t
  got_other d t at other = get_or-set_other (map got_at_end thieves) number d (got_at_end owner) [] other ∙ map_at got_at_end thieves d t [] at

  pub got_past : (d : ℕ) → length thieves ≤ d → got_from d (hand_view number vars owner thieves words).ledger ≡ []
  got_past d le = get_or_past (set (map got_at_end thieves) number (got_at_end owner)) d [] (subst (λ (k : ℕ). k ≤ d) (sym (length-set (map got_at_end thieves) number (got_at_end owner) ∙ length-map thieves got_at_end)) le)

  -- a call, at the seat of this hand
  pub noted : (h : HandView) (c : Call) (new : SeatView) → hand_view number vars owner thieves words ≡ h → new ≡ record words { notes = called words.notes c } → hand_view number vars owner thieves new ≡ adds h (calling c)
  noted h c new is_h is_new =
      let old : HandView = hand_view number vars owner thieves words in
      ap (hand_view number vars owner thieves) is_new
      ∙ ap (λ (l : List Call). record old { ledger = record old.ledger { calls = l } }) (ap (λ (l : List (ℕ × List Call)). own_calls (with_call c l)) is.6)
      ∙ adds-calling old c ∙ ap (λ (g : HandView). adds g (calling c)) is_h

  -- a cube is put, or comes back
  pub put_in : (h : HandView) (Q : Cube) (new : DequeEnd) (r : Result (Unit {0}) Cube) → hand_view number vars owner thieves words ≡ h
      → MatchResult r (λ _. new ≡ with_put owner Q) (λ x. (x ≡ Q) × (new ≡ owner))
      → MatchResult r (λ _. hand_view number vars new thieves words ≡ adds h (putting Q)) (λ x. (x ≡ Q) × (hand_view number vars new thieves words ≡ h))
  put_in h Q new (Ok u) is_h e = ap (λ (o : DequeEnd). hand_view number vars o thieves words) e ∙ adds-putting (hand_view number vars owner thieves words) Q ∙ ap (λ (g : HandView). adds g (putting Q)) is_h
  put_in h Q new (Err x) is_h e = (e.0, ap (λ (o : DequeEnd). hand_view number vars o thieves words) e.1 ∙ is_h)

  took_all : Emptied owner.notes → IsAllTaken (hand_view number vars owner thieves words)
  took_all e = record {
    order = e.0;
    is_put = sym (append-nil (map (λ o. o.1) e.0)) ∙ ap (λ (l : List Cube). map (λ o. o.1) e.0 ++ l) (sym is.1.1) ∙ e.1;
    of_own = of_one number vars owner e.0 is.1 e.3 ∙ sym got_own;
    no_other = λ k le. e.2 k (subst (λ (n : ℕ). n ≤ k) (sym is.2) le);
  }

  took_front : (Q : Cube) → Fronts owner.notes (Q ∷ []) → IsFront (hand_view number vars owner thieves words) Q
  took_front Q f = record {
    order = f.0;
    rest = f.1;
    is_put = ap (λ (l : List Cube). map (λ o. o.1) f.0 ++ (l ++ (Q ∷ f.1))) (sym is.1.1) ∙ f.2;
    of_own = of_one number vars owner f.0 is.1 f.4 ∙ sym got_own;
    no_other = λ k le. f.3 k (subst (λ (n : ℕ). n ≤ k) (sym is.2) le);
  }

  pub took : (new : DequeEnd) (r : Option Cube) → Took owner new r → Taking (hand_view number vars owner thieves words) (hand_view number vars new thieves words) r
  took new None h = (ap (λ (e : DequeEnd). hand_view number vars e thieves words) h.0, took_all h.1)
  took new (Some Q) h =
      let old : HandView = hand_view number vars owner thieves words in (
        subst (λ (n : ℕ). IsFit n Q) is.1.0 h.0,
        took_front Q h.1,
        ap (λ (e : DequeEnd). hand_view number vars e thieves words) h.2
            ∙ ap (λ (g : List (List Cube)). record old { ledger = record old.ledger { got = g } })
            (ap (set (map got_at_end thieves) number) (with_one number vars owner Q is.1) ∙ got-taken (map got_at_end thieves) number (got_at_end owner) Q in_got)
            ∙ adds-getting old number Q,
      )

-- one hand alone
none_from : (h : HandView) (order : List (ℕ × Cube)) → h.number < h.hands → h.hands ≡ 1 → ((k : ℕ) → h.hands ≤ k → entries_of k order ≡ []) → entries_of h.number order ≡ got_from h.number h.ledger → map (λ e. e.1) order ≡ got_from h.number h.ledger
none_from h order lt one none mine =
    let zero_is : 0 ≡ h.number = omega arith in
    entries-alone order (λ k le. none k (omega arith)) ∙ ap (λ (k : ℕ). entries_of k order) zero_is ∙ mine

pub alone : (old new : HandView) (r : Option Cube) → old.number < old.hands → Taking old new r → old.hands ≡ 1 → IsNextOf old r
alone old new None lt h one = let a = h.1 in sym (none_from old a.order lt one a.no_other a.of_own) ∙ a.is_put
alone old new (Some Q) lt h one = let f = h.1 in (f.rest, ap (λ (l : List Cube). l ++ (Q ∷ f.rest)) (sym (none_from old f.order lt one f.no_other f.of_own)) ∙ f.is_put)

abbrev pub Stole : DequeEnd → DequeEnd → Taken → Type 0
Stole thief new r = MatchTaken r (λ c. IsFit thief.notes.vars c × (new ≡ with_got thief c)) ((new ≡ thief) × EmptyThen thief.notes) (new ≡ thief)

abbrev pub Stealing : HandView → HandView → ℕ → Taken → Type 0
Stealing old new from r = MatchTaken r (λ c. IsFit old.vars c × (new ≡ adds old (getting from c))) ((new ≡ old) × IsAllStolen old from) (new ≡ old)

is_of_more : (number vars : ℕ) (w : DequeEnd) (c : Cube) → IsOf number vars w → IsOf number vars (with_got w c)
is_of_more number vars w c is = (is.0, is.1, ap (with_more (c ∷ [])) is.2 ∙ ap (λ (l : List Cube). (number, l) ∷ []) (sym (with_one number vars w c is)))

module _ (number vars : ℕ) (owner : DequeEnd) (thieves : List DequeEnd) (words : SeatView) (is : IsHand number vars owner thieves words) (from : ℕ) (thief : DequeEnd) (at : slice_get thieves from ≡ Some thief) (other : from ≢ number) where
  pub one_thief : IsOf number vars thief
  one_thief = is.4 from thief at other

  same_view : hand_view number vars owner (set thieves from thief) words ≡ hand_view number vars owner thieves words
  same_view = ap (λ (l : List DequeEnd). hand_view number vars owner l words) (ap (set thieves from) (sym (get_or_from_slice_get thieves from thief thief at)) ∙ set-get_or thieves from thief)

  from_there : from < length (map got_at_end thieves)
  from_there = subst (λ (k : ℕ). from < k) (sym (length-map thieves got_at_end)) (slice_get_within thieves from thief at)

  more_view : (c : Cube) → hand_view number vars owner (set thieves from (with_got thief c)) words ≡ adds (hand_view number vars owner thieves words) (getting from c)
  more_view c =
      let new : DequeEnd = with_got thief c in
      let lens : length (set thieves from new) ≡ length thieves = length-set thieves from new in
      let ids : map (λ (w : DequeEnd). w.id) (set thieves from new) ≡ map (λ (w : DequeEnd). w.id) thieves = map-set_same (λ (w : DequeEnd). w.id) thieves from new thief (ap (λ (w : DequeEnd). w.id) (sym (get_or_from_slice_get thieves from thief thief at))) in
      let got : map got_at_end (set thieves from new) ≡ set (map got_at_end thieves) from (get_or (map got_at_end thieves) from [] ++ c ∷ []) =
      map-set got_at_end thieves from new ∙ ap (set (map got_at_end thieves) from) (with_one number vars thief c one_thief ∙ ap (λ (l : List Cube). l ++ c ∷ []) (sym (map_at got_at_end thieves from thief [] at))) in
      let all : set (map got_at_end (set thieves from new)) number (got_at_end owner) ≡ both (set (map got_at_end thieves) number (got_at_end owner)) (from_deque from (c ∷ [])) =
      ap (λ (g : List (List Cube)). set g number (got_at_end owner)) got ∙ got-stolen (map got_at_end thieves) from number (got_at_end owner) c from_there other in
      let old : HandView = hand_view number vars owner thieves words in
      (λ i. record old { hands = lens i; deques = ids i; ledger = record old.ledger { got = all i } }) ∙ adds-getting old from c

  pub stealing : (new : DequeEnd) (r : Taken) → Stole thief new r → Stealing (hand_view number vars owner thieves words) (hand_view number vars owner (set thieves from new) words) from r
  stealing new (Got c) h = (subst (λ (n : ℕ). IsFit n c) one_thief.0 h.0, ap (λ (e : DequeEnd). hand_view number vars owner (set thieves from e) words) h.1 ∙ more_view c)
  stealing new Empty h = (
    ap (λ (e : DequeEnd). hand_view number vars owner (set thieves from e) words) h.0 ∙ same_view,
    record {
      put = h.1.0;
      order = h.1.1;
      is_put = h.1.2;
      of_own = of_one number vars thief h.1.1 one_thief h.1.3 ∙ sym (get_or-set_other (map got_at_end thieves) number from (got_at_end owner) [] other ∙ map_at got_at_end thieves from thief [] at);
    },
  )
  stealing new Again h = ap (λ (e : DequeEnd). hand_view number vars owner (set thieves from e) words) h ∙ same_view

  one_new : (new : DequeEnd) (r : Taken) → Stole thief new r → IsOf number vars new
  one_new new (Got c) h = subst (IsOf number vars) (sym h.1) (is_of_more number vars thief c one_thief)
  one_new new Empty h = subst (IsOf number vars) (sym h.0) one_thief
  one_new new Again h = subst (IsOf number vars) (sym h) one_thief

  pub still_hand : (new : DequeEnd) (r : Taken) → Stole thief new r → IsHand number vars owner (set thieves from new) words
  still_hand new r h = (
    subst (λ (n : ℕ). number < n) (sym (length-set thieves from new)) is.0,
    is.1,
    is.2 ∙ sym (length-set thieves from new),
    (λ w e. ⊎_elim (λ (t : (number ≡ from) × (new ≡ w)). absurd (other (sym t.0))) (λ (t : (number ≢ from) × (slice_get thieves number ≡ Some w)). is.3 w t.1) (slice_get_set thieves from number new w e)),
    (λ d w e ne. ⊎_elim (λ (t : (d ≡ from) × (new ≡ w)). subst (IsOf number vars) t.1 (one_new new r h)) (λ (t : (d ≢ from) × (slice_get thieves d ≡ Some w)). is.4 d w t.1 ne) (slice_get_set thieves from d new w e)),
    is.5,
    is.6,
  )

-- which hand it is stays
pub same_of : (old new : HandView) → new ≡ old → SameHand old new
same_of old new e = (ap (λ (h : HandView). h.number) e, ap (λ (h : HandView). h.hands) e, ap (λ (h : HandView). h.vars) e, ap (λ (h : HandView). h.deques) e, ap (λ (h : HandView). h.table) e, ap (λ (h : HandView). h.roots) e)

pub same_adds : (old new : HandView) (l : Ledger) → new ≡ adds old l → SameHand old new
same_adds old new l e = same_of (adds old l) new e

pub take_same : (old new : HandView) (r : Option Cube) → Taking old new r → SameHand old new
take_same old new None h = same_of old new h.0
take_same old new (Some Q) h = same_adds old new (getting old.number Q) h.2

pub steal_same : (old new : HandView) (from : ℕ) (r : Taken) → Stealing old new from r → SameHand old new
steal_same old new from (Got Q) h = same_adds old new (getting from Q) h.1
steal_same old new from Empty h = same_of old new h.0
steal_same old new from Again h = same_of old new h
