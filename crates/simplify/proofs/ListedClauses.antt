-- The lists of the clauses' numbers: a clause comes, one goes, and a list loses the numbers of those
-- that are gone.
use Rattle.std.proofs.Common.{◌≡◌, ℕ, zero, suc, ◌+◌, ◌-◌, ◌<◌, ◌≤◌, inl, inr, Bool, true, false, not, ◌&&◌, cond, nat_eq, eq-eqb, List, [], ◌∷◌, ◌++◌, length, filter, replicate, Some, None, get_or, slice_set, refl, ap, sym, ◌∙◌, subst, arith, All}
use Rattle.std.proofs.lemmas.Bool.{cases_eq}
use Rattle.std.proofs.lemmas.Bool.Decides.{nat_tests}
use Rattle.std.proofs.lemmas.List.{append-nil, get_or_append_left, get_or_push, get_or-set_same, get_or-set_other, length-set, length_push}
use Rattle.std.proofs.lemmas.List.Elements.{All-head, All-tail, All-append, All-replicate, All-filter, filter-append}
use Rattle.theory.specs.Literals.{Clause}
use Rattle.theory.specs.Learning.{IsRising}
use Rattle.simplify.specs.Entries.{Entries, numbers_in}
use Rattle.simplify.specs.Tables.{is_live, has_code, times, one_if, list_at, AreLists, AreListed}
use Rattle.simplify.proofs.CountedClauses.{times-rising}
use Rattle.simplify.proofs.EntryLemmas.{numbers_in-push, numbers_in-gone}

filter-replicate : (p : ℕ → Bool) (m x : ℕ) → filter p (replicate m x) ≡ cond (p x) (replicate m x) []
filter-replicate p zero x = go (p x)
  where
    go : (b : Bool) → ◌≡◌ {A = List ℕ} [] (cond b [] [])
    go true = refl
    go false = refl
filter-replicate p (suc m) x = go (p x) (filter-replicate p m x)
  where
    go : (b : Bool) → filter p (replicate m x) ≡ cond b (replicate m x) [] → cond b (x ∷ filter p (replicate m x)) (filter p (replicate m x)) ≡ cond b (x ∷ replicate m x) []
    go true more = ap (λ (ns : List ℕ). x ∷ ns) more
    go false more = more

filter-alike : (p q : ℕ → Bool) (n : ℕ) (ns : List ℕ) → ((m : ℕ) → (1 ≤ m) × (m ≤ n) → p m ≡ q m) → All (λ m. (1 ≤ m) × (m ≤ n)) ns → filter p ns ≡ filter q ns
filter-alike p q n [] h all = refl
filter-alike p q n (m ∷ ns) h all =
    (λ i. cond (h m (All-head (λ k. (1 ≤ k) × (k ≤ n)) m ns all) i) (m ∷ filter-alike p q n ns h (All-tail (λ k. (1 ≤ k) × (k ≤ n)) m ns all) i) (filter-alike p q n ns h (All-tail (λ k. (1 ≤ k) × (k ≤ n)) m ns all) i))

filter-both : (p q : ℕ → Bool) (ns : List ℕ) → filter (λ m. p m && q m) ns ≡ filter p (filter q ns)
filter-both p q [] = refl
filter-both p q (m ∷ ns) = go (p m) (q m) refl refl (filter-both p q ns)
  where
    go : (a b : Bool) → p m ≡ a → q m ≡ b → filter (λ k. p k && q k) ns ≡ filter p (filter q ns)
        → cond (p m && q m) (m ∷ filter (λ k. p k && q k) ns) (filter (λ k. p k && q k) ns) ≡ filter p (cond (q m) (m ∷ filter q ns) (filter q ns))
    go true true e f more =
        (λ i. cond (e i && f i) (m ∷ more i) (more i)) ∙ ((λ i. cond (sym e i) (m ∷ filter p (filter q ns)) (filter p (filter q ns))) ∙ (λ i. filter p (cond (sym f i) (m ∷ filter q ns) (filter q ns))))
    go true false e f more = (λ i. cond (e i && f i) (m ∷ more i) (more i)) ∙ (λ i. filter p (cond (sym f i) (m ∷ filter q ns) (filter q ns)))
    go false true e f more =
        (λ i. cond (e i && f i) (m ∷ more i) (more i)) ∙ ((λ i. cond (sym e i) (m ∷ filter p (filter q ns)) (filter p (filter q ns))) ∙ (λ i. filter p (cond (sym f i) (m ∷ filter q ns) (filter q ns))))
    go false false e f more = (λ i. cond (e i && f i) (m ∷ more i) (more i)) ∙ (λ i. filter p (cond (sym f i) (m ∷ filter q ns) (filter q ns)))

filter-again : (p : ℕ → Bool) (ns : List ℕ) → filter p (filter p ns) ≡ filter p ns
filter-again p [] = refl
filter-again p (m ∷ ns) = go (p m) refl (filter-again p ns)
  where
    go : (b : Bool) → p m ≡ b → filter p (filter p ns) ≡ filter p ns → filter p (cond b (m ∷ filter p ns) (filter p ns)) ≡ cond b (m ∷ filter p ns) (filter p ns)
    go true e more = (λ i. cond (e i) (m ∷ more i) (more i))
    go false e more = more

-- who is there when one more comes
live-before : (there : List Bool) (b : Bool) (n : ℕ) → (1 ≤ n) × (n ≤ length there) → is_live (there ++ b ∷ []) n ≡ is_live there n
live-before there b n h = get_or_append_left there (b ∷ []) false (n - 1) (let some = h.0 in let most = h.1 in omega arith)

live-last : (there : List Bool) (b : Bool) (n : ℕ) → n ≡ length there + 1 → is_live (there ++ b ∷ []) n ≡ b
live-last there b n h = get_or_push there b false (n - 1) (omega arith)

-- and when one goes
live-gone : (there : List Bool) (i n : ℕ) → i < length there → (1 ≤ n) × (n ≤ length there) → is_live (slice_set there i false) n ≡ (not (nat_eq n (i + 1)) && is_live there n)
live-gone there i n less h = let some = h.0 in elim (cases_eq (n - 1) i) [
  | inl here ↦
      let same : nat_eq n (i + 1) ≡ true = eq-eqb n (i + 1) (omega arith) in
      ap (λ k. get_or (slice_set there i false) k false) here ∙ (get_or-set_same there i false false less ∙ (λ j. not (sym same j) && is_live there n))
  | inr other ↦
      let apart : nat_eq n (i + 1) ≡ false = grind (arith, nat_tests) in
      get_or-set_other there i (n - 1) false false other ∙ (λ j. not (sym apart j) && is_live there n)
]

within-more : (n : ℕ) (ns : List ℕ) → All (λ m. (1 ≤ m) × (m ≤ n)) ns → All (λ m. (1 ≤ m) × (m ≤ n + 1)) ns
within-more n ns all = λ k d less. (let some = (all k d less).0 in let most = (all k d less).1 in (omega arith, omega arith))

-- a list, with a number more some times
module _ (there : List Bool) (b : Bool) (ns : List ℕ) (m n : ℕ) (last : n ≡ length there + 1) (within : All (λ k. (1 ≤ k) × (k ≤ length there)) ns) where
  longer-live : filter (is_live (there ++ b ∷ [])) (ns ++ replicate m n) ≡ filter (is_live there) ns ++ cond b (replicate m n) []
  longer-live =
      filter-append (is_live (there ++ b ∷ [])) ns (replicate m n)
      ∙ (λ i. filter-alike (is_live (there ++ b ∷ [])) (is_live there) (length there) ns (live-before there b) within i ++ (filter-replicate (is_live (there ++ b ∷ [])) m n ∙ (λ j. cond (live-last there b n last j) (replicate m n) [])) i)

  longer-within : All (λ k. (1 ≤ k) × (k ≤ length (there ++ b ∷ []))) (ns ++ replicate m n)
  longer-within =
      let long : length (there ++ b ∷ []) ≡ length there + 1 = length_push there b in
      subst (λ x. All (λ k. (1 ≤ k) × (k ≤ x)) (ns ++ replicate m n)) (sym long)
      (All-append (λ k. (1 ≤ k) × (k ≤ length there + 1)) ns (replicate m n) (within-more (length there) ns within) (All-replicate (λ k. (1 ≤ k) × (k ≤ length there + 1)) m n (omega arith, omega arith)))

replicate-one : (b : Bool) (n : ℕ) → replicate (one_if b) n ≡ cond b (n ∷ []) []
replicate-one true n = refl
replicate-one false n = refl

module _ (there : List Bool) (K : Entries) (L M : List (List ℕ)) (c : Clause) (n : ℕ) (h : AreLists there K L) (last : n ≡ length there + 1) (m : AreListed L c n M) where
  -- a clause that comes
  pub lists-come : length K ≡ length there → IsRising c → AreLists (there ++ true ∷ []) (K ++ Some c ∷ []) M
  lists-come each rising = record {
    live = λ j less.
        ap (filter (is_live (there ++ true ∷ []))) (m.1 j)
        ∙ (longer-live there true (list_at L j) (times j c) n last (h.within j)
        ∙ ((λ i. h.live j (subst (λ x. j < x) m.0 less) i ++ (ap (λ x. replicate x n) (times-rising j c rising) ∙ (replicate-one (has_code j c) n ∙ ap (λ x. cond (has_code j c) (x ∷ []) []) (let is : n ≡ 1 + length K = omega arith in is))) i)
        ∙ sym (numbers_in-push (has_code j) 1 K (Some c))));
    within = λ j. subst (All (λ k. (1 ≤ k) × (k ≤ length (there ++ true ∷ [])))) (sym (m.1 j)) (longer-within there true (list_at L j) (times j c) n last (h.within j));
  }

  -- a number of a clause that isn't there
  pub lists-absent : AreLists (there ++ false ∷ []) (K ++ None ∷ []) M
  lists-absent = record {
    live = λ j less.
        ap (filter (is_live (there ++ false ∷ []))) (m.1 j)
        ∙ (longer-live there false (list_at L j) (times j c) n last (h.within j)
        ∙ ((λ i. h.live j (subst (λ x. j < x) m.0 less) i ++ [])
        ∙ sym (numbers_in-push (has_code j) 1 K None)));
    within = λ j. subst (All (λ k. (1 ≤ k) × (k ≤ length (there ++ false ∷ [])))) (sym (m.1 j)) (longer-within there false (list_at L j) (times j c) n last (h.within j));
  }

-- no list has the number of a clause without literals
pub listed-none : (L : List (List ℕ)) (n : ℕ) → AreListed L [] n L
listed-none L n = (refl, λ j. sym (append-nil (list_at L j)))

-- a clause that goes
pub lists-gone : (there : List Bool) (K : Entries) (L : List (List ℕ)) (i : ℕ) → AreLists there K L → i < length there → length K ≡ length there → AreLists (slice_set there i false) (slice_set K i None) L
lists-gone there K L i h less each = record {
  live = λ j inside.
      filter-alike (is_live (slice_set there i false)) (λ n. not (nat_eq n (i + 1)) && is_live there n) (length there) (list_at L j) (λ n w. live-gone there i n less w) (h.within j)
      ∙ (filter-both (λ n. not (nat_eq n (i + 1))) (is_live there) (list_at L j)
      ∙ (ap (filter (λ n. not (nat_eq n (i + 1)))) (h.live j inside)
      ∙ (ap (λ x. filter (λ n. not (nat_eq n x)) (numbers_in (has_code j) 1 K)) (let is : i + 1 ≡ 1 + i = omega arith in is)
      ∙ sym (numbers_in-gone (has_code j) 1 i K (omega arith)))));
  within = λ j. subst (λ x. All (λ k. (1 ≤ k) × (k ≤ x)) (list_at L j)) (sym (length-set there i false)) (h.within j);
}

-- a list that loses the numbers of those that are gone
pub lists-cleaned : (there : List Bool) (K : Entries) (L : List (List ℕ)) (i : ℕ) (ns : List ℕ) → AreLists there K L → i < length L → ns ≡ filter (is_live there) (list_at L i) → AreLists there K (slice_set L i ns)
lists-cleaned there K L i ns h less is = record {
  live = λ j inside. elim (cases_eq j i) [
    | inl here ↦
        ap (filter (is_live there)) (at-here j here ∙ (is ∙ ap (λ x. filter (is_live there) (list_at L x)) (sym here)))
        ∙ (filter-again (is_live there) (list_at L j) ∙ h.live j (subst (λ x. j < x) (length-set L i ns) inside))
    | inr other ↦ ap (filter (is_live there)) (get_or-set_other L i j ns [] other) ∙ h.live j (subst (λ x. j < x) (length-set L i ns) inside)
  ];
  within = λ j. elim (cases_eq j i) [
    | inl here ↦ subst (All (λ k. (1 ≤ k) × (k ≤ length there))) (sym (at-here j here ∙ is)) (All-filter (is_live there) (λ k. (1 ≤ k) × (k ≤ length there)) (list_at L i) (h.within i))
    | inr other ↦ subst (All (λ k. (1 ≤ k) × (k ≤ length there))) (sym (get_or-set_other L i j ns [] other)) (h.within j)
  ];
}
  where
    at-here : (j : ℕ) → j ≡ i → list_at (slice_set L i ns) j ≡ ns
    at-here j e = ap (list_at (slice_set L i ns)) e ∙ get_or-set_same L i ns [] less
