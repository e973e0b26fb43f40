-- Learnt clauses that are kept count among the first ones.
use Rattle.std.proofs.Common.{◌≡◌, ℕ, ◌+◌, ◌<◌, ◌≤◌, Bool, true, false, List, [], ◌∷◌, ◌++◌, length, get_or, Option, refl, ap, sym, subst, ◌∙◌, ◌⊎◌, inl, inr, arith, if◌then◌else◌}
use Rattle.std.proofs.lemmas.Bool.{cases_lt}
use Rattle.std.proofs.lemmas.List.Elements.{Contains-append_left, Contains-push, Contains-push_cases}
use Rattle.std.specs.List.{list_all, Contains}
use Rattle.theory.specs.Literals.{Literal, Clause, same, has}
use Rattle.theory.specs.Trails.{Trail}
use Rattle.theory.proofs.literals.LiteralLemmas.{same-eq, same-refl}
use Rattle.kernel.specs.declared.watches.watch.Watched.{Watched}
use Rattle.kernel.specs.Watching.{At, IsPair, WasUnit, Reached}
use Rattle.kernel.specs.Visiting.{WatchLists}
use Rattle.kernel.specs.Attaching.{IsWatching}
use Rattle.kernel.specs.Keeping.{NotesSingle, AreSinglesTo}
use Rattle.kernel.proofs.Places.{At-one, At-get}
use Rattle.kernel.proofs.LiteralFacts.{all-member}
use Rattle.kernel.proofs.Beginning.{single-unit}

pub singles-none : (pairs : List Watched) (first : ℕ) (old : List ℕ) → AreSinglesTo pairs first first old old
singles-none pairs first old = record {
  stay = λ n h. h;
  all = λ n w low high. absurd (omega (arith, low, high));
  only = λ n h. inl h;
}

pub singles-more : (pairs : List Watched) (first i : ℕ) (old was now : List ℕ) (w : Watched) → first ≤ i → At pairs i w → AreSinglesTo pairs first i old was → NotesSingle pairs i was now → AreSinglesTo pairs first (i + 1) old now
singles-more pairs first i old was now w low at s notes = go (same w.first w.second) refl (notes w at)
  where
    last : (n : ℕ) → n < i + 1 → (n < i) ⊎ (i ≤ n) → (n < i) ⊎ (n ≡ i)
    last n h (inl k) = inl k
    last n h (inr k) = inr (omega (arith, h, k))

    go : (b : Bool) → same w.first w.second ≡ b → now ≡ (if b then was ++ i ∷ [] else was) → AreSinglesTo pairs first (i + 1) old now
    go true is e = record {
      stay = λ n h. rw e (Contains-append_left was (i ∷ []) n (s.stay n h));
      all = λ n v l h a one. rw e (all n v l a one (last n h (cases_lt n i)));
      only = λ n h. only n (Contains-push_cases was i n (subst (λ (ns : List ℕ). Contains ns n) e h));
    }
      where
        all : (n : ℕ) (v : Watched) → first ≤ n → At pairs n v → same v.first v.second ≡ true → (n < i) ⊎ (n ≡ i) → Contains (was ++ i ∷ []) n
        all n v l a one (inl h) = Contains-append_left was (i ∷ []) n (s.all n v l h a one)
        all n v l a one (inr h) = rw h (Contains-push was i)

        wider : (n : ℕ) → Contains old n ⊎ ((first ≤ n) × (n < i) × ((v : Watched) → At pairs n v → same v.first v.second ≡ true))
            → Contains old n ⊎ ((first ≤ n) × (n < i + 1) × ((v : Watched) → At pairs n v → same v.first v.second ≡ true))
        wider n (inl h) = inl h
        wider n (inr (l, h, one)) = inr (l, (omega (arith, h)), one)

        only : (n : ℕ) → Contains was n ⊎ (i ≡ n) → Contains old n ⊎ ((first ≤ n) × (n < i + 1) × ((v : Watched) → At pairs n v → same v.first v.second ≡ true))
        only n (inl h) = wider n (s.only n h)
        only n (inr h) =
            let one : (v : Watched) → At pairs n v → same v.first v.second ≡ true = λ v a. subst (λ (u : Watched). same u.first u.second ≡ true) (At-one pairs i w v at (subst (λ m. At pairs m v) (sym h) a)) is in
            inr ((omega (arith, low, h)), (omega (arith, h)), one)
    go false is e = record {
      stay = λ n h. rw e (s.stay n h);
      all = λ n v l h a one. rw e (all n v l a one (last n h (cases_lt n i)));
      only = λ n h. only n (s.only n (subst (λ (ns : List ℕ). Contains ns n) e h));
    }
      where
        all : (n : ℕ) (v : Watched) → first ≤ n → At pairs n v → same v.first v.second ≡ true → (n < i) ⊎ (n ≡ i) → Contains was n
        all n v l a one (inl h) = s.all n v l h a one
        all n v l a one (inr h) =
            let same_pair : w ≡ v = At-one pairs i w v at (subst (λ m. At pairs m v) h a) in
            let both : true ≡ false = sym one ∙ (ap (λ (u : Watched). same u.first u.second) (sym same_pair) ∙ is) in
            absurd (cc)

        only : (n : ℕ) → Contains old n ⊎ ((first ≤ n) × (n < i) × ((v : Watched) → At pairs n v → same v.first v.second ≡ true))
            → Contains old n ⊎ ((first ≤ n) × (n < i + 1) × ((v : Watched) → At pairs n v → same v.first v.second ≡ true))
        only n (inl h) = inl h
        only n (inr (l, h, one)) = inr (l, (omega (arith, h)), one)

-- all clauses count among the first ones
pub kept-watching : (V first at floor : ℕ) (K : List Clause) (T : Trail) (k : WatchLists) (single new : List ℕ) (empty : Option ℕ) → first ≤ length K → IsWatching V first K T at floor k single empty
    → AreSinglesTo k.pairs first (length k.pairs) single new → IsWatching V (length K) K T at floor k new empty
kept-watching V first at floor K T k single new empty within s found = record {
  lists = s.lists;
  served = s.served;
  entries = s.entries;
  within = s.within;
  base = record {
    all_singles = λ n c y h a m all. by_place n c y a m all (cases_lt n first);
    singles = λ n h. is_single n (found.only n h);
    empty = λ n h. let r = s.base.empty n h in ((let z : n < length K = omega (arith, r.0, within) in z), r.1);
    empties = λ n h a. empties n a (cases_lt n first);
    learnt = λ n h a. absurd (omega (arith, h, a.0));
  };
}
  where
    d : Watched
    d = record { first = record { var = 0; positive = true }; second = record { var = 0; positive = true } }

    many : length k.pairs ≡ length K
    many = s.served.tends.listed.length_pairs

    pair-at : (n : ℕ) → n < length K → At k.pairs n (get_or k.pairs n d)
    pair-at n h = At-get k.pairs n d (omega (arith, h, many))

    full : (c : Clause) (y : Literal) → has c y ≡ true → c ≡ [] → ⊥
    full c y m e = let z : has [] y ≡ true = subst (λ (x : Clause). has x y ≡ true) e m in absurd (cc)

    by_place : (n : ℕ) (c : Clause) (y : Literal) → At K n c → has c y ≡ true → list_all (same y) c ≡ true → (n < first) ⊎ (first ≤ n) → Contains new n
    by_place n c y a m all (inl h) = found.stay n (s.base.all_singles n c y h a m all)
    by_place n c y a m all (inr h) =
        let w = get_or k.pairs n d in
        let pair : IsPair c w = s.served.tends.listed.pairs n c w a (pair-at n a.0) (full c y m) in
        let one : y ≡ w.first = same-eq y w.first (all-member (same y) c w.first all pair.first_in) in
        let two : y ≡ w.second = same-eq y w.second (all-member (same y) c w.second all pair.second_in) in
        let eq : w.first ≡ w.second = sym one ∙ two in
        found.all n w h (omega (arith, a.0, many)) (pair-at n a.0) (subst (λ (l : Literal). same w.first l ≡ true) eq (same-refl w.first))

    is_single : (n : ℕ) → Contains single n ⊎ ((first ≤ n) × (n < length k.pairs) × ((w : Watched) → At k.pairs n w → same w.first w.second ≡ true)) → (n < length K) × ((c : Clause) → At K n c → WasUnit [] c)
    is_single n (inl h) = let r = s.base.singles n h in ((omega (arith, r.0, within)), r.1)
    is_single n (inr (low, high, one)) = ((omega (arith, high, many)), λ c a. unit c a c refl)
      where
        unit : (c : Clause) → At K n c → (x : Clause) → c ≡ x → WasUnit [] c
        unit c a [] e = absurd (s.base.learnt n low (subst (λ (x : Clause). At K n x) e a))
        unit c a (y ∷ x) e =
            let w = get_or k.pairs n d in
            single-unit c w (s.served.tends.listed.pairs n c w a (pair-at n a.0) (λ z. let f : y ∷ x ≡ [] = sym e ∙ z in absurd (cc))) (one w (pair-at n a.0))

    empties : (n : ℕ) → At K n [] → (n < first) ⊎ (first ≤ n) → Reached empty n
    empties n a (inl h) = s.base.empties n h a
    empties n a (inr h) = absurd (s.base.learnt n h a)
