-- How the deques take in all notes and are emptied, over plain lists.
use Rattle.std.proofs.Common.{◌≡◌, ◌≢◌, ℕ, zero, suc, ◌+◌, ◌<◌, List, [], ◌∷◌, ◌++◌, length, set, get_or, flat_map, Some, sym, refl, ap, ◌∙◌, subst, ⊎_elim, arith, length-append, append-nil, append_assoc}
use Rattle.std.specs.Prelude.{slice_get}
use Rattle.std.proofs.lemmas.List.{length-set, map-append}
use Rattle.std.proofs.lemmas.Option.{slice_get-get_or, slice_get_within}
use mathlib.Core.Logic.{dite}
use native.Mathlib.Decide.{ℕ_discrete}
use Rattle.std.specs.Global.{Vec}
use Rattle.theory.specs.Ledger.{Call}
use Rattle.pool.specs.DequeNotes.{Cube, merged}
use Rattle.pool.specs.Deque.{Emptied}
use Rattle.pool.specs.Ends.{DequeEnd}
use Rattle.pool.specs.Opening.{ids}
use Rattle.pool.specs.Words.{SeatView}
use Rattle.pool.specs.Hands.{HandView, hand_view, IsHand}
use Rattle.pool.specs.Closing.{Merged, Merging, AreParts, calls_of, got_at, gots, Gathered, drained, Drained}
use Rattle.pool.proofs.ListPlaces.{slice_get_snoc, set_here, set_else, at_front, at_end}

pub merging_more : (old thieves owners : List DequeEnd) (d : ℕ) (l w new : DequeEnd) → slice_get owners d ≡ Some l → slice_get thieves d ≡ Some w → new ≡ record l { notes = merged l.notes w.notes } → Merging old thieves d owners → Merging old thieves (d + 1) (set owners d new)
merging_more old thieves owners d l w new at there is m = (
  length-set owners d new ∙ m.0,
  (λ k l' w' lt e f. dite (ℕ_discrete k d)
      (λ (q : k ≡ d).
      let here : slice_get owners d ≡ Some l' = m.2 d (omega arith) ∙ ap (slice_get old) (sym q) ∙ e in
      let same_owner : l ≡ l' = some_same l l' (sym at ∙ here) in
      let same_thief : w ≡ w' = some_same w w' (sym there ∙ ap (slice_get thieves) (sym q) ∙ f) in
      ap (slice_get (set owners d new)) q ∙ set_here owners d new (slice_get_within owners d l at) ∙ ap Some (is ∙ (λ i. record (same_owner i) { notes = merged (same_owner i).notes (same_thief i).notes })))
      (λ (q : k ≢ d). set_else owners d k new q ∙ m.1 k l' w' (omega arith) e f)),
  (λ k le. set_else owners d k new (λ q. omega arith) ∙ m.2 k (omega arith)),
)
  where
    some_same : (a b : DequeEnd) → Some a ≡ Some b → a ≡ b
    some_same a b e = cc

pub merging_ends : (old thieves new : List DequeEnd) → Merging old thieves (length old) new → Merged old thieves new
merging_ends old thieves new m = (m.0, λ d l w at there. m.1 d l w (slice_get_within old d l at) at there)

pub parts_more : (hands : List HandView) (owners : List DequeEnd) (rows : List (Vec DequeEnd)) (v : HandView) (owner : DequeEnd) (thieves : Vec DequeEnd) (words : SeatView) → IsHand v.number v.vars owner thieves.items words → hand_view v.number v.vars owner thieves.items words ≡ v
    → AreParts hands owners rows → AreParts (hands ++ v ∷ []) (owners ++ owner ∷ []) (rows ++ thieves ∷ [])
parts_more hands owners rows v owner thieves words is same p = (
  length-append owners (owner ∷ []) ∙ ap (λ (k : ℕ). k + 1) p.0 ∙ sym (length-append hands (v ∷ [])),
  length-append rows (thieves ∷ []) ∙ ap (λ (k : ℕ). k + 1) p.1 ∙ sym (length-append hands (v ∷ [])),
  λ h u e. ⊎_elim
      (λ (was : slice_get hands h ≡ Some u). let q = p.2 h u was in (q.0, q.1, q.2, at_front owners (owner ∷ []) h q.0 q.3, at_front rows (thieves ∷ []) h q.1 q.4, q.5, q.6))
      (λ (x : (h ≡ length hands) × (v ≡ u)).
      let P : HandView → Type 0 = λ y. (l : DequeEnd) × (w : Vec DequeEnd) × (b : SeatView) × (slice_get (owners ++ owner ∷ []) h ≡ Some l) × (slice_get (rows ++ thieves ∷ []) h ≡ Some w) × IsHand y.number y.vars l w.items b × (hand_view y.number y.vars l w.items b ≡ y) in
      subst P x.1 (owner, thieves, words, at_end owners owner h (x.0 ∙ sym p.0), at_end rows thieves h (x.0 ∙ sym p.1), is, same))
      (slice_get_snoc hands v u h e),
)

pub calls_more : (hands : List HandView) (v : HandView) (owner : DequeEnd) (thieves : List DequeEnd) (words : SeatView) → IsHand v.number v.vars owner thieves words → hand_view v.number v.vars owner thieves words ≡ v → calls_of hands ++ words.notes.calls ≡ calls_of (hands ++ v ∷ [])
calls_more hands v owner thieves words is same =
    ap (λ (l : List (ℕ × List Call)). calls_of hands ++ l) (is.6 ∙ ap (λ (u : HandView). (v.number, u.ledger.calls) ∷ []) same)
    ∙ sym (map-append (λ (u : HandView). (u.number, u.ledger.calls)) hands (v ∷ []))

-- gathering
pub got_at_is : (ws : List DequeEnd) (d : ℕ) (w : DequeEnd) → slice_get ws d ≡ Some w → got_at ws d ≡ w.notes.got
got_at_is [] d w e = absurd (cc)
got_at_is (x ∷ ws) zero w e = let same : x ≡ w = cc in ap (λ (y : DequeEnd). y.notes.got) same
got_at_is (x ∷ ws) (suc d) w e = got_at_is ws d w e

gots_more : (rows : List (Vec DequeEnd)) (r : Vec DequeEnd) (d : ℕ) → gots (rows ++ r ∷ []) d ≡ gots rows d ++ got_at r.items d
gots_more [] r d = append-nil (got_at r.items d)
gots_more (x ∷ xs) r d = ap (λ (l : List (ℕ × List Cube)). got_at x.items d ++ l) (gots_more xs r d) ∙ sym (append_assoc (got_at x.items d) (gots xs d) (got_at r.items d))

pub gathered_none : (owners : List DequeEnd) → Gathered owners [] owners
gathered_none owners = (refl, λ d l e. e ∙ ap (λ (g : List (ℕ × List Cube)). Some (record l { notes = record l.notes { got = g } })) (sym (append-nil l.notes.got)))

pub gathered_more : (old mid new : List DequeEnd) (rows : List (Vec DequeEnd)) (r : Vec DequeEnd) → length r.items ≡ length old → Gathered old rows mid → Merged mid r.items new → Gathered old (rows ++ r ∷ []) new
gathered_more old mid new rows r len g m = (
  m.0 ∙ g.0,
  λ d l e.
      let lt : d < length r.items = let w = slice_get_within old d l e in omega arith in
      let l' : DequeEnd = record l { notes = record l.notes { got = l.notes.got ++ gots rows d } } in
      let w : DequeEnd = get_or r.items d l in
      let there : slice_get r.items d ≡ Some w = slice_get-get_or r.items d l lt in
      m.1 d l' w (g.1 d l e) there
      ∙ ap (λ (x : List (ℕ × List Cube)). Some (record l { notes = record l.notes { got = x } }))
      (append_assoc l.notes.got (gots rows d) w.notes.got ∙ ap (λ (x : List (ℕ × List Cube)). l.notes.got ++ x) (ap (λ (x : List (ℕ × List Cube)). gots rows d ++ x) (sym (got_at_is r.items d w there)) ∙ sym (gots_more rows r d))),
)

pub ids_merged : (old thieves new : List DequeEnd) → length thieves ≡ length old → Merged old thieves new → ids new ≡ ids old
ids_merged old thieves new len m = by_owner old thieves new len m.0 m.1
  where
    by_owner : (a w b : List DequeEnd) → length w ≡ length a → length b ≡ length a → ((d : ℕ) (l v : DequeEnd) → slice_get a d ≡ Some l → slice_get w d ≡ Some v → slice_get b d ≡ Some (record l { notes = merged l.notes v.notes })) → ids b ≡ ids a
    by_owner [] w [] p q f = refl
    by_owner [] w (y ∷ b) p q f = absurd (omega arith)
    by_owner (x ∷ a) [] b p q f = absurd (omega arith)
    by_owner (x ∷ a) (v ∷ w) [] p q f = absurd (omega arith)
    by_owner (x ∷ a) (v ∷ w) (y ∷ b) p q f =
        let same : y ≡ record x { notes = merged x.notes v.notes } = some_is y (record x { notes = merged x.notes v.notes }) (f 0 x v refl refl) in
        λ i. (same i).id ∷ by_owner a w b (omega arith) (omega arith) (λ d l u e g. f (suc d) l u e g) i
      where
        some_is : (s t : DequeEnd) → Some s ≡ Some t → s ≡ t
        some_is s t e = cc

-- draining
flat_more : (cs : List (List Cube)) (c : List Cube) → flat_map (λ cubes. cubes) (cs ++ c ∷ []) ≡ flat_map (λ cubes. cubes) cs ++ c
flat_more [] c = append-nil c
flat_more (x ∷ xs) c = ap (λ (l : List Cube). x ++ l) (flat_more xs c) ∙ sym (append_assoc x (flat_map (λ cubes. cubes) xs) c)

pub drained_more : (owners : List DequeEnd) (k : ℕ) (left new cs : List Cube) (owner : DequeEnd) → slice_get owners k ≡ Some owner → new ≡ left ++ cs → Emptied (drained owner.notes cs) → Drained owners k left → Drained owners (k + 1) new
drained_more owners k left new cs owner at is empty h = (
  h.0 ++ cs ∷ [],
  flat_more h.0 cs ∙ ap (λ (l : List Cube). l ++ cs) h.1 ∙ sym is,
  length-append h.0 (cs ∷ []) ∙ ap (λ (n : ℕ). n + 1) h.2,
  λ d l c e f. ⊎_elim (λ (was : slice_get h.0 d ≡ Some c). h.3 d l c e was)
      (λ (x : (d ≡ length h.0) × (cs ≡ c)).
      let same : owner ≡ l = some_is owner l (sym at ∙ ap (slice_get owners) (sym (x.0 ∙ h.2)) ∙ e) in
      let P : DequeEnd × List Cube → Type 0 = λ y. Emptied (drained y.0.notes y.1) in
      subst P (λ i. (same i, x.1 i)) empty)
      (slice_get_snoc h.0 cs c d f),
)
  where
    some_is : (s t : DequeEnd) → Some s ≡ Some t → s ≡ t
    some_is s t e = cc
