-- Lists that lie one behind the other move together, without those that are gone.
use Rattle.std.proofs.Common.{◌≡◌, ℕ, zero, suc, ◌+◌, ◌-◌, ◌<◌, ◌≤◌, Bool, true, false, List, [], ◌∷◌, ◌++◌, length, take, drop, get_or, set, refl, ap, sym, subst, ◌∙◌, arith, if◌then◌else◌}
use Rattle.std.specs.List.{slice_range, copy_within}
use Rattle.std.proofs.lemmas.List.{take_more, take_more_set, drop-set-lt, length-set, length-take-le, length-drop, get_or-drop, take_all, append-nil, drop-drop}
use Rattle.std.proofs.lemmas.List.Edits.{take-paste, drop-paste, length-paste}
use Rattle.std.proofs.lemmas.Option.{get_or_from_slice_get}
use Rattle.theory.specs.Literals.{Literal, Clause}
use Rattle.cnf.specs.Pieces.{pieces, AreEnds, start_at}
use Rattle.kernel.specs.Shown.{emptied}
use Rattle.cnf.proofs.Pieces.{pieces-push, AreEnds-push, AreEnds-take, pieces-take, pieces-at, length-pieces, start-le, end-le, start-within, start_at-behind}

pub length-emptied : (gone : ℕ → Bool) (n : ℕ) (K : List Clause) → length (emptied gone n K) ≡ length K
length-emptied gone n [] = refl
length-emptied gone n (c ∷ K) = ap suc (length-emptied gone (n + 1) K)

emptied-at : (gone : ℕ → Bool) (n i : ℕ) (K : List Clause) (d : Clause) → i < length K → get_or (emptied gone n K) i d ≡ (if gone (n + i) then [] else get_or K i d)
emptied-at gone n i [] d less = absurd (omega (arith, less))
emptied-at gone n zero (c ∷ K) d less = ap (λ m. if gone m then [] else c) (let z : n ≡ n + 0 = omega arith in z)
emptied-at gone n (suc i) (c ∷ K) d less = emptied-at gone (n + 1) i K d (omega (arith, less)) ∙ ap (λ m. if gone m then [] else get_or K i d) (let z : n + 1 + i ≡ n + suc i = omega arith in z)

emptied-here : (gone : ℕ → Bool) (i : ℕ) (K : List Clause) (d : Clause) → i < length K → get_or (emptied gone 0 K) i d ≡ (if gone i then [] else get_or K i d)
emptied-here gone i K d less = emptied-at gone 0 i K d less ∙ ap (λ m. if gone m then [] else get_or K i d) (let z : 0 + i ≡ i = omega arith in z)

-- none of the first ones is gone
emptied-front : (gone : ℕ → Bool) (n i : ℕ) (K : List Clause) → ((m : ℕ) → m < n + i → gone m ≡ false) → take i (emptied gone n K) ≡ take i K
emptied-front gone n zero K none = refl
emptied-front gone n (suc i) [] none = refl
emptied-front gone n (suc i) (c ∷ K) none = (λ j. (ap (λ b. if b then [] else c) (none n (omega arith))) j ∷ emptied-front gone (n + 1) i K (λ m less. none m (omega (arith, less))) j)

-- the lists before the one at a place have moved: what is left of them ends at `to`, and those from
-- `from` on stand where they did
pub record IsTogether (gone : ℕ → Bool) (old : List Literal) (old_ends : List ℕ) (lits : List Literal) (ends : List ℕ) (index from to : ℕ) : Type 0 where
  pub start : from ≡ start_at 0 old_ends index
  pub before : to ≤ from
  pub within : from ≤ length old
  pub long : length lits ≡ length old
  pub many : length ends ≡ length old_ends
  pub rest : drop from lits ≡ drop from old
  pub rest_ends : drop index ends ≡ drop index old_ends
  pub are_ends : AreEnds 0 (take index ends) to
  pub left : pieces 0 (take to lits) (take index ends) ≡ take index (emptied gone 0 (pieces 0 old old_ends))

module _ (gone : ℕ → Bool) (old : List Literal) (old_ends : List ℕ) (h : AreEnds 0 old_ends (length old)) where
  abbrev K : List Clause
  K = pieces 0 old old_ends

  pub together-none : (index : ℕ) → index ≤ length old_ends → ((m : ℕ) → m < index → gone m ≡ false) → IsTogether gone old old_ends old old_ends index (start_at 0 old_ends index) (start_at 0 old_ends index)
  together-none index within none = record {
    start = refl;
    before = omega arith;
    within = start-within 0 old_ends (length old) index h within;
    long = refl;
    many = refl;
    rest = refl;
    rest_ends = refl;
    are_ends = AreEnds-take 0 old_ends (length old) index h within;
    left = pieces-take 0 old old_ends index h within ∙ sym (emptied-front gone 0 index K (λ m less. none m (omega (arith, less))));
  }

  module _ (lits : List Literal) (ends : List ℕ) (index start to : ℕ) (t : IsTogether gone old old_ends lits ends index start to) (inside : index < length old_ends) where
    abbrev end : ℕ
    end = get_or old_ends index 0

    pub together-end : get_or ends index 0 ≡ end
    together-end =
        let zero_more : index + 0 ≡ index = omega arith in
        ap (λ n. get_or ends n 0) (sym zero_more) ∙ (sym (get_or-drop index ends 0 0) ∙ (ap (λ (es : List ℕ). get_or es 0 0) t.rest_ends ∙ (get_or-drop index old_ends 0 0 ∙ ap (λ n. get_or old_ends n 0) zero_more)))

    pub together-low : start ≤ end
    together-low = let a = start-le 0 old_ends (length old) index h inside in omega (arith, a, t.start)

    pub together-high : end ≤ length lits
    together-high = let a = end-le 0 old_ends (length old) index h inside in omega (arith, a, t.long)

    piece-is : (d : Clause) → get_or K index d ≡ slice_range lits start end
    piece-is d =
        get_or_from_slice_get K index (slice_range old (start_at 0 old_ends index) end) d (pieces-at 0 old old_ends index inside)
        ∙ (ap (λ n. take (end - n) (drop n old)) (sym t.start) ∙ ap (take (end - start)) (sym t.rest))

    next-start : end ≡ start_at 0 old_ends (index + 1)
    next-start = let a : start_at 0 old_ends (index + 1) ≡ get_or old_ends (index + 1 - 1) 0 = start_at-behind 0 old_ends (index + 1) (omega arith) in let b : index + 1 - 1 ≡ index = omega arith in sym (a ∙ ap (λ n. get_or old_ends n 0) b)

    -- the list at the place moves behind the others, or is gone
    together-more : (now : List Literal) (part : Clause) (after : ℕ) → length now ≡ length lits → after ≡ to + length part → after ≤ end → take after now ≡ take to lits ++ part → drop end now ≡ drop end lits
        → (if gone index then [] else slice_range lits start end) ≡ part → IsTogether gone old old_ends now (set ends index after) (index + 1) end after
    together-more now part after long size low front behind is =
        let places : index < length ends = omega (arith, inside, t.many) in
        let is_end : to + length part ≡ after = sym size in
        let kept : length (take to lits) ≡ to = length-take-le to lits (let a = together-low in let b = together-high in omega (arith, a, b, t.before)) in
        let among : index < length K = omega (arith, inside, length-pieces 0 old old_ends) in
        let some : index < length (emptied gone 0 K) = omega (arith, among, length-emptied gone 0 K) in
        let taken : take (index + 1) (set ends index after) ≡ take index ends ++ after ∷ [] = take_more_set ends index after places in
        let last : get_or (emptied gone 0 K) index [] ≡ part = emptied-here gone index K [] among ∙ (ap (λ (c : Clause). if gone index then [] else c) (piece-is []) ∙ is) in
        record {
          start = next-start;
          before = low;
          within = end-le 0 old_ends (length old) index h inside;
          long = long ∙ t.long;
          many = length-set ends index after ∙ t.many;
          rest = behind ∙ rest-of end together-low;
          rest_ends = drop-set-lt (index + 1) ends index after (omega arith) ∙ rest-ends;
          are_ends = rw taken (AreEnds-push 0 (take index ends) to after t.are_ends (omega (arith, size)));
          left = (λ j. pieces 0 (front j) (taken j))
              ∙ (pieces-push 0 (take to lits) part (take index ends) after (subst (AreEnds 0 (take index ends)) (sym kept) t.are_ends) (omega (arith, size, kept))
              ∙ ((λ j. t.left j ++ (sym last) j ∷ [])
              ∙ sym (take_more (emptied gone 0 K) index [] some)));
        }
      where
        rest-of : (n : ℕ) → start ≤ n → drop n lits ≡ drop n old
        rest-of n low =
            let e : start + (n - start) ≡ n = omega (arith, low) in
            ap (λ m. drop m lits) (sym e) ∙ (sym (drop-drop (n - start) start lits) ∙ (ap (drop (n - start)) t.rest ∙ (drop-drop (n - start) start old ∙ ap (λ m. drop m old) e)))

        rest-ends : drop (index + 1) ends ≡ drop (index + 1) old_ends
        rest-ends = sym (drop-drop 1 index ends) ∙ (ap (drop 1) t.rest_ends ∙ drop-drop 1 index old_ends)

    pub together-gone : gone index ≡ true → IsTogether gone old old_ends lits (set ends index to) (index + 1) end to
    together-gone e = together-more lits [] to refl (let z : to ≡ to + 0 = omega arith in z) (let a = together-low in omega (arith, a, t.before)) (sym (append-nil (take to lits))) refl (ap (λ b. if b then [] else slice_range lits start end) e)

    pub together-kept : (now : List Literal) → gone index ≡ false → now ≡ copy_within lits start end to → IsTogether gone old old_ends now (set ends index (to + (end - start))) (index + 1) end (to + (end - start))
    together-kept now e is =
        let l = together-low in
        let u = together-high in
        let many : length (slice_range lits start end) ≡ end - start = length-take-le (end - start) (drop start lits) (omega (arith, l, u, length-drop start lits)) in
        let place : to ≤ length lits = omega (arith, l, u, t.before) in
        let enough : end - start ≤ length (drop start lits) = omega (arith, l, u, length-drop start lits) in
        together-more now (slice_range lits start end) (to + (end - start))
        (ap length is ∙ length-paste lits to (drop start lits) (end - start) (omega (arith, l, u, t.before)) enough)
        (omega (arith, many)) (omega (arith, l, t.before))
        (ap (take (to + (end - start))) is ∙ take-paste lits to (drop start lits) (end - start) place enough)
        (behind place enough l u)
        (ap (λ b. if b then [] else slice_range lits start end) e)
      where
        behind : to ≤ length lits → end - start ≤ length (drop start lits) → start ≤ end → end ≤ length lits → drop end now ≡ drop end lits
        behind place enough l u =
            let n : ℕ = to + (end - start) in
            let low : n ≤ end = omega (arith, l, t.before) in
            let f : n + (end - n) ≡ end = omega (arith, low) in
            ap (λ m. drop m now) (sym f)
            ∙ (sym (drop-drop (end - n) n now)
            ∙ (ap (drop (end - n)) (ap (drop n) is ∙ drop-paste lits to (drop start lits) (end - start) place enough)
            ∙ (drop-drop (end - n) n lits ∙ ap (λ m. drop m lits) f)))

  -- all have moved
  module _ (lits : List Literal) (ends : List ℕ) (index from to : ℕ) (t : IsTogether gone old old_ends lits ends index from to) (done : length old_ends ≤ index) where
    ends-whole : take index ends ≡ ends
    ends-whole = take_all index ends (omega (arith, t.many, done))

    pub together-within : to ≤ length lits
    together-within = omega (arith, t.before, t.within, t.long)

    pub together-ends : AreEnds 0 ends to
    together-ends = subst (λ (es : List ℕ). AreEnds 0 es to) ends-whole t.are_ends

    pub together-all : pieces 0 (take to lits) ends ≡ emptied gone 0 K
    together-all =
        ap (λ (es : List ℕ). pieces 0 (take to lits) es) (sym ends-whole)
        ∙ (t.left ∙ take_all index (emptied gone 0 K) (omega (arith, done, length-emptied gone 0 K, length-pieces 0 old old_ends)))
