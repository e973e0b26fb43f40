-- How the deques are shared out, over plain lists.
use Rattle.std.proofs.Common.{◌≡◌, ◌≢◌, ℕ, zero, suc, ◌+◌, ◌<◌, ltb, cond, Bool, true, false, eq-eqb, ne_eqb, List, [], ◌∷◌, ◌++◌, length, map, set, get_or, take, Some, sym, refl, ap, ◌∙◌, subst, ⊎_elim, arith}
use Rattle.std.specs.Prelude.{slice_get, ◌==◌, replicate}
use Rattle.std.proofs.lemmas.Bool.Decides.{nat_tests}
use Rattle.std.proofs.lemmas.List.{get_or-map, length-map, length-set, map-append, take_more, set-get_or, get_or-replicate}
use Rattle.std.proofs.Math.Seq.{map-set_same}
use Rattle.std.specs.Global.{Vec}
use Rattle.atomic_table.specs.Seated.{TableId}
use Rattle.theory.specs.Ledger.{Call}
use Rattle.pool.specs.DequeNotes.{DequeNotes, Cube, spent, thief_notes}
use Rattle.pool.specs.Deque.{got_of}
use Rattle.pool.specs.SeatNotes.{hand_notes}
use Rattle.pool.specs.Words.{SeatView, own_calls}
use Rattle.pool.specs.Ends.{DequeId, DequeEnd}
use Rattle.pool.specs.Hands.{HandView, hand_view, first_got, got_at_end, IsHand}
use Rattle.pool.specs.Pools.{PoolView, roots_of, new_hand, AreNew}
use Rattle.pool.specs.Opening.{stage, notes_of_thief, ids, Staged, IsRow, AreRows, Halfway, rootless_hand, AreRootless}
use Rattle.pool.proofs.ListPlaces.{slice_get_set, map_at, slice_get_snoc}

pub halfway_ends : (vars h d : ℕ) (owners : List DequeEnd) → d ≡ length owners → Halfway vars h d owners → Staged vars (h + 1) owners
halfway_ends vars h d owners is s k l at = (s k l at).0 (subst (λ (n : ℕ). k < n) (sym is) (within owners k l at))
  where
    within : (ls : List DequeEnd) (i : ℕ) (a : DequeEnd) → slice_get ls i ≡ Some a → i < length ls
    within [] i a e = absurd (cc)
    within (x ∷ xs) zero a e = omega arith
    within (x ∷ xs) (suc i) a e = let w = within xs i a e in omega arith

pub halfway_more : (vars h d : ℕ) (owners : List DequeEnd) (new : DequeEnd) → new.notes ≡ stage vars (h + 1) d → Halfway vars h d owners → Halfway vars h (d + 1) (set owners d new)
halfway_more vars h d owners new is s k l at = ⊎_elim
    (λ (p : (k ≡ d) × (new ≡ l)). ((λ _. ap (λ (x : DequeEnd). x.notes) (sym p.1) ∙ is ∙ ap (stage vars (h + 1)) (sym p.0)), λ le. absurd (let q = p.0 in omega arith)))
    (λ (p : (k ≢ d) × (slice_get owners k ≡ Some l)). let f = s k l p.1 in let ne = p.0 in ((λ lt. f.0 (omega arith)), λ le. f.1 (omega arith)))
    (slice_get_set owners d k new l at)

pub row_more : (vars h : ℕ) (thieves : List DequeEnd) (w : DequeEnd) → w.notes ≡ notes_of_thief vars h (length thieves) → IsRow vars h thieves → IsRow vars h (thieves ++ w ∷ [])
row_more vars h thieves w is r d v at = ⊎_elim (r d v) (λ (p : (d ≡ length thieves) × (w ≡ v)). ap (λ (x : DequeEnd). x.notes) (sym p.1) ∙ is ∙ ap (notes_of_thief vars h) (sym p.0)) (slice_get_snoc thieves w v d at)

pub ids_kept : (owners : List DequeEnd) (d : ℕ) (old new : DequeEnd) → old ≡ get_or owners d old → new.id ≡ old.id → ids (set owners d new) ≡ ids owners
ids_kept owners d old new is same = map-set_same (λ (e : DequeEnd). e.id) owners d new old (same ∙ ap (λ (e : DequeEnd). e.id) is)

pub ids_more : (thieves : List DequeEnd) (w old : DequeEnd) (owners start : List DequeEnd) (d : ℕ) → ids thieves ≡ take d (ids start) → ids owners ≡ ids start → length owners ≡ length start → d < length start → old ≡ get_or owners d old → w.id ≡ old.id
    → ids (thieves ++ w ∷ []) ≡ take (d + 1) (ids start)
ids_more thieves w old owners start d so_far same len lt is id =
    let here : w.id ≡ get_or (ids start) d w.id = id ∙ ap (λ (e : DequeEnd). e.id) is ∙ sym (get_or-map (λ (e : DequeEnd). e.id) owners d old w.id (omega arith)) ∙ ap (λ (l : List DequeId). get_or l d w.id) same in
    let long : d < length (ids start) = subst (λ (n : ℕ). d < n) (sym (length-map start (λ (e : DequeEnd). e.id))) lt in
    map-append (λ (e : DequeEnd). e.id) thieves (w ∷ []) ∙ ap (λ (l : List DequeId). l ++ w.id ∷ []) so_far ∙ ap (λ (i : DequeId). take d (ids start) ++ i ∷ []) here ∙ sym (take_more (ids start) d w.id long)

pub rows_more : (vars : ℕ) (deques : List DequeId) (rows : List (Vec DequeEnd)) (r : Vec DequeEnd) → IsRow vars (length rows) r.items → ids r.items ≡ deques → AreRows vars deques rows → AreRows vars deques (rows ++ r ∷ [])
rows_more vars deques rows r is same all h v at = ⊎_elim (all h v)
    (λ (p : (h ≡ length rows) × (r ≡ v)). let P : ℕ × Vec DequeEnd → Type 0 = λ x. IsRow vars x.0 x.1.items × (ids x.1.items ≡ deques) in subst P (λ i. (sym p.0 i, p.1 i)) (is, same)) (slice_get_snoc rows r v h at)

module _ (n vars h : ℕ) (owner : DequeEnd) (thieves : List DequeEnd) (words : SeatView) (deques : List DequeId) (table : TableId) (lt : h < n) (own : owner.notes ≡ stage vars n h) (len : length thieves ≡ n) (row : IsRow vars h thieves)
    (here : (w : DequeEnd) → slice_get thieves h ≡ Some w → w.id ≡ owner.id) (same : ids thieves ≡ deques) (seat : words ≡ record { table = table; notes = hand_notes h }) where
  own_got : owner.notes.got ≡ (h, []) ∷ []
  own_got = ap (λ (v : DequeNotes). v.got) own ∙ ap (λ b. cond b ((h, []) ∷ []) []) below
    where
      below : ltb h n ≡ true
      below = grind (arith, nat_tests)

  thief_got : (d : ℕ) (w : DequeEnd) → slice_get thieves d ≡ Some w → first_got w.notes.got ≡ []
  thief_got d w at = ap (λ (v : DequeNotes). first_got v.got) (row d w at) ∙ either (d == h)
    where
      either : (b : Bool) → first_got (got_of (cond b spent (thief_notes vars h))) ≡ []
      either true = refl
      either false = refl

  pub made_hand : IsHand h vars owner thieves words
  made_hand = (
    subst (λ (k : ℕ). h < k) (sym len) lt,
    (ap (λ (v : DequeNotes). v.vars) own, ap (λ (v : DequeNotes). v.left) own, own_got ∙ ap (λ (l : List Cube). (h, l) ∷ []) (sym (ap first_got own_got))),
    ap (λ (v : DequeNotes). v.made) own ∙ sym len,
    (λ w at. (here w at, ap (λ (v : DequeNotes). v.got) (row h w at ∙ ap (λ b. cond b spent (thief_notes vars h)) (eq-eqb h h refl)))),
    (λ d w at ne. let is = row d w at ∙ ap (λ b. cond b spent (thief_notes vars h)) (ne_eqb d h ne) in
        (ap (λ (v : DequeNotes). v.vars) is, ap (λ (v : DequeNotes). v.left) is, ap (λ (v : DequeNotes). v.got) is ∙ ap (λ (l : List Cube). (h, l) ∷ []) (sym (ap (λ (v : DequeNotes). first_got v.got) is)))),
    ap (λ (s : SeatView). s.notes.is_first) seat,
    ap (λ (s : SeatView). s.notes.calls) seat ∙ ap (λ (l : List Call). (h, l) ∷ []) (sym (ap (λ (s : SeatView). own_calls s.notes.calls) seat)),
  )

  pub made_view : hand_view h vars owner thieves words ≡ rootless_hand n vars deques table h
  made_view =
      let stolen : map got_at_end thieves ≡ replicate n [] = all_none thieves (λ d w at. thief_got d w at) ∙ ap (λ (k : ℕ). replicate k []) len in
      let all : set (map got_at_end thieves) h (got_at_end owner) ≡ replicate n [] =
      ap (λ (l : List (List Cube)). set l h (got_at_end owner)) stolen ∙ ap (set (replicate n []) h) (ap first_got own_got ∙ sym (get_or-replicate n h [] [] lt)) ∙ set-get_or (replicate n []) h [] in
      let tables = ap (λ (s : SeatView). s.table) seat in
      let roots = ap (λ (v : DequeNotes). v.roots) own in
      let put = ap (λ (v : DequeNotes). v.put) own in
      let calls = ap (λ (s : SeatView). own_calls s.notes.calls) seat in
      λ i. record { number = h; hands = len i; vars = vars; deques = same i; table = tables i; roots = roots i; ledger = record { put = put i; got = all i; calls = calls i } }
    where
      all_none : (ws : List DequeEnd) → ((d : ℕ) (w : DequeEnd) → slice_get ws d ≡ Some w → first_got w.notes.got ≡ []) → map got_at_end ws ≡ replicate (length ws) []
      all_none [] f = refl
      all_none (w ∷ ws) f = λ i. f 0 w refl i ∷ all_none ws (λ d v at. f (suc d) v at) i

-- the hands made so far
pub new_more : (n vars : ℕ) (deques : List DequeId) (table : TableId) (hands : List HandView) (v : HandView) → v ≡ rootless_hand n vars deques table (length hands)
    → AreRootless n vars deques table hands → AreRootless n vars deques table (hands ++ v ∷ [])
new_more n vars deques table hands v is all h u at = ⊎_elim (all h u) (λ (p : (h ≡ length hands) × (v ≡ u)). sym p.1 ∙ is ∙ ap (rootless_hand n vars deques table) (sym p.0)) (slice_get_snoc hands v u h at)

pub here_of : (thieves owners : List DequeEnd) (h : ℕ) (owner : DequeEnd) → slice_get owners h ≡ Some owner → ids thieves ≡ ids owners → (w : DequeEnd) → slice_get thieves h ≡ Some w → w.id ≡ owner.id
here_of thieves owners h owner at same w there = sym (map_at (λ (e : DequeEnd). e.id) thieves h w owner.id there) ∙ ap (λ (l : List DequeId). get_or l h owner.id) same ∙ map_at (λ (e : DequeEnd). e.id) owners h owner owner.id at

pub same_len : (thieves owners : List DequeEnd) → ids thieves ≡ ids owners → length thieves ≡ length owners
same_len thieves owners same = sym (length-map thieves (λ (e : DequeEnd). e.id)) ∙ ap length same ∙ length-map owners (λ (e : DequeEnd). e.id)

-- the root is put into the deque of the first
pub rooted : (pool : PoolView) (vars : ℕ) (deques : List DequeId) (all : List HandView) (old new : HandView) → slice_get all 0 ≡ Some old → new ≡ record old { roots = old.roots ++ pool.root ∷ [] }
    → length all ≡ pool.hands → AreRootless pool.hands vars deques pool.table all → AreNew pool vars (set all 0 new)
rooted pool vars deques all old new at is len a = record {
  deques = deques;
  as_many = length-set all 0 new ∙ len;
  each = each;
}
  where
    none : (number : ℕ) → number ≢ 0 → [] ≡ roots_of pool.root number
    none number n = ap (λ b. cond b (pool.root ∷ []) []) (sym (ne_eqb number 0 n))

    each : (number : ℕ) (h : HandView) → slice_get (set all 0 new) number ≡ Some h → h ≡ new_hand pool vars deques number
    each number h e = ⊎_elim
        (λ (p : (number ≡ 0) × (new ≡ h)). sym p.1 ∙ is ∙ ap (λ (u : HandView). record u { roots = u.roots ++ pool.root ∷ [] }) (a 0 old at) ∙ ap (new_hand pool vars deques) (sym p.0))
        (λ (p : (number ≢ 0) × (slice_get all number ≡ Some h)). a number h p.1 ∙ ap (λ (l : List Cube). record (rootless_hand pool.hands vars deques pool.table number) { roots = l }) (none number p.0))
        (slice_get_set all 0 number new h e)

-- the deques by their thieves
pub ids_by : (owners : List DequeEnd) (deques : List DequeId) → length owners ≡ length deques → ((d : ℕ) (l : DequeEnd) → slice_get owners d ≡ Some l → slice_get deques d ≡ Some l.id) → ids owners ≡ deques
ids_by [] [] len f = refl
ids_by [] (x ∷ xs) len f = absurd (omega arith)
ids_by (l ∷ ls) [] len f = absurd (omega arith)
ids_by (l ∷ ls) (x ∷ xs) len f = let same : x ≡ l.id = some_is x l.id (f 0 l refl) in λ i. sym same i ∷ ids_by ls xs (omega arith) (λ d m e. f (suc d) m e) i
  where
    some_is : (s t : DequeId) → Some s ≡ Some t → s ≡ t
    some_is s t e = cc
