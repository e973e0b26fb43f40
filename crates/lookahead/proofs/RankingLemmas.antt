-- The variables that are free, in the order of a ranking, are the best ones of those that are free.
use Rattle.std.proofs.Common.{◌≡◌, ℕ, zero, suc, ◌+◌, ◌-◌, ◌<◌, ◌≤◌, Bool, true, false, not, ◌&&◌, ◌||◌, cond, nat_eq, eqb-true, eq-eqb, All, List, [], ◌∷◌, ◌++◌, length, length-append, append_assoc, append-nil, map, filter, drop, get_or, is_some, option_map, refl, ap, sym, ◌∙◌, Some, None, arith, if◌then◌else◌}
use Rattle.std.specs.List.{list_any, count_by}
use Rattle.std.proofs.lemmas.List.{drop_all}
use Rattle.std.proofs.lemmas.List.Elements.{All-nil, All-cons, All-head}
use Rattle.std.proofs.lemmas.List.Sums.{sum_by-cons}
use Rattle.std.proofs.lemmas.List.Sorted.{sorted_far, sum_by-IsPermutation, list_any-IsPermutation}
use Rattle.theory.specs.Literals.{Literal, Clause, has_var, positive, IsVariable}
use Rattle.theory.specs.Trails.{Trail, Entry, literals, entry_of, variables}
use Rattle.theory.specs.Truth.{Formula}
use Rattle.theory.specs.Held.{is_held, held}
use Rattle.theory.specs.Scores.{Scores, score_of, best_of, best_outside}
use Rattle.theory.specs.Looking.{rank, ranks, best_ones}
use Rattle.theory.proofs.literals.LiteralLemmas.{not_true, and-left, and-right, or-left, or-right}
use Rattle.theory.proofs.literals.LiteralSets.{true_false, and-true, false_unless, or-false_left, or-false_right}
use Rattle.theory.proofs.searching.BestOnes.{best_of-top, best_of-nobody, filter-both}
use Rattle.theory.proofs.searching.HeldVariables.{held-variable, held-is, held-has}
use Rattle.theory.proofs.searching.MappedVariables.{at-variable, variables-once}
use Rattle.lookahead.specs.Rankings.{goes_before, ranked_by, first_free, IsRanking}
use Rattle.lookahead.specs.declared.ranking.Ranked.{Ranked}
use Rattle.lookahead.proofs.RankingOrder.{order, IsNotBefore-from_test}

-- one of the list is of the variable
abbrev pub holds : List Ranked → ℕ → Bool
holds rs v = list_any (λ (r : Ranked). nat_eq v r.var) rs

-- what is so of a list by rank, of those of the variables 1 to V that pass
record AreRanked (s : Scores) (V : ℕ) (p : ℕ → Bool) (rs : List Ranked) : Type 0 where
  far : (i j : ℕ) (d : Ranked) → i ≤ j → j < length rs → goes_before (get_or rs j d) (get_or rs i d) ≡ false
  chosen : (i : ℕ) (d : Ranked) → i < length rs → IsVariable V (get_or rs i d).var × (p (get_or rs i d).var ≡ true)
  scored : (i : ℕ) (d : Ranked) → i < length rs → (get_or rs i d).rank ≡ score_of s (get_or rs i d).var
  apart : (i j : ℕ) (d : Ranked) → i < j → j < length rs → (get_or rs i d).var ≡ (get_or rs j d).var → ⊥

AreRanked-rest : (s : Scores) (V : ℕ) (p : ℕ → Bool) (r : Ranked) (rs : List Ranked) → AreRanked s V p (r ∷ rs) → AreRanked s V p rs
AreRanked-rest s V p r rs h = record {
  far = λ i j d l u. h.far (suc i) (suc j) d (omega arith) (omega arith);
  chosen = λ i d u. h.chosen (suc i) d (omega arith);
  scored = λ i d u. h.scored (suc i) d (omega arith);
  apart = λ i j d l u. h.apart (suc i) (suc j) d (omega arith) (omega arith);
}

-- where it stands
holds-at : (rs : List Ranked) (v : ℕ) (d : Ranked) → holds rs v ≡ true → (j : ℕ) × (j < length rs) × ((get_or rs j d).var ≡ v)
holds-at [] v d h = absurd (cc)
holds-at (r ∷ rs) v d h = go (nat_eq v r.var) refl h (holds-at rs v d)
  where
    go : (b : Bool) → nat_eq v r.var ≡ b → (b || holds rs v) ≡ true → (holds rs v ≡ true → (j : ℕ) × (j < length rs) × ((get_or rs j d).var ≡ v))
        → (j : ℕ) × (j < suc (length rs)) × ((get_or (r ∷ rs) j d).var ≡ v)
    go true e t more = (0, omega arith, sym (eqb-true v r.var e))
    go false e t more = let m = more t in let u = m.1 in (suc m.0, omega (arith, u), m.2)

-- the free ones that pass are in the list
abbrev AreThere : ℕ → (ℕ → Bool) → List Literal → List Ranked → Type 0
AreThere V p Q rs = (v : ℕ) → IsVariable V v → p v ≡ true → has_var Q v ≡ false → holds rs v ≡ true

-- the first one is the best one, if it is free
first-top : (s : Scores) (V : ℕ) (p : ℕ → Bool) (Q : List Literal) (r : Ranked) (rs : List Ranked) → AreRanked s V p (r ∷ rs) → AreThere V p Q (r ∷ rs) → has_var Q r.var ≡ false
    → best_outside (filter p (variables V)) Q s ≡ Some r.var
first-top s V p Q r rs h there free =
    ap (best_of s) (filter-both (λ v. not (has_var Q v)) p (variables V))
    ∙ best_of-top s (λ v. p v && not (has_var Q v)) V r.var (record {
      low = first.0.0;
      high = first.0.1;
      passes = and-true (p r.var) (not (has_var Q r.var)) first.1 (ap not free);
      above = above;
    })
  where
    first : IsVariable V r.var × (p r.var ≡ true)
    first = h.chosen 0 r (omega arith)

    score : r.rank ≡ score_of s r.var
    score = h.scored 0 r (omega arith)

    above : (v : ℕ) → 1 ≤ v → v ≤ V → (p v && not (has_var Q v)) ≡ true → (score_of s v ≤ score_of s r.var) × (score_of s v ≡ score_of s r.var → v ≤ r.var)
    above v l u t = go (holds-at (r ∷ rs) v r (there v (l, u) (and-left (p v) (not (has_var Q v)) t) (not_true (has_var Q v) (and-right (p v) (not (has_var Q v)) t))))
      where
        go : (j : ℕ) × (j < suc (length rs)) × ((get_or (r ∷ rs) j r).var ≡ v) → (score_of s v ≤ score_of s r.var) × (score_of s v ≡ score_of s r.var → v ≤ r.var)
        go m =
            let a = get_or (r ∷ rs) m.0 r in
            let not_before = IsNotBefore-from_test a r (h.far 0 m.0 r (omega arith) m.1) in
            let other : a.rank ≡ score_of s v = h.scored m.0 r m.1 ∙ ap (score_of s) m.2 in
            let low = not_before.rank in
            let is = score in
            let here = m.2 in
            (omega (arith, other, low, is), λ e. let less = not_before.var (omega (arith, other, is, e)) in omega (arith, less, here))

first-nobody : (s : Scores) (V : ℕ) (p : ℕ → Bool) (Q : List Literal) → AreThere V p Q [] → best_outside (filter p (variables V)) Q s ≡ None
first-nobody s V p Q there =
    ap (best_of s) (filter-both (λ v. not (has_var Q v)) p (variables V))
    ∙ best_of-nobody s (λ v. p v && not (has_var Q v)) V (λ v l u. go v (l, u) (p v) (has_var Q v) refl refl)
  where
    go : (v : ℕ) → IsVariable V v → (a b : Bool) → p v ≡ a → has_var Q v ≡ b → (a && not b) ≡ false
    go v k false b t e = refl
    go v k true true t e = refl
    go v k true false t e = absurd (let h = there v k t e in cc)

-- P is what is on the trail, and Q has the variables that were taken besides
best-first : (s : Scores) (V : ℕ) (p : ℕ → Bool) (rs : List Ranked) (n : ℕ) (P Q : List Literal) → AreRanked s V p rs → AreThere V p Q rs
    → ((i : ℕ) (d : Ranked) → i < length rs → has_var Q (get_or rs i d).var ≡ has_var P (get_or rs i d).var) → best_ones n (filter p (variables V)) s Q ≡ first_free n P rs
best-first s V p rs zero P Q h there agree = refl
best-first s V p [] (suc n) P Q h there agree = rw (first-nobody s V p Q there, best_ones) refl
best-first s V p (r ∷ rs) (suc n) P Q h there agree = go (has_var P r.var) refl (λ m R h t a. best-first s V p rs m P R h t a)
  where
    same : has_var Q r.var ≡ has_var P r.var
    same = agree 0 r (omega arith)

    after : (v : ℕ) → (v ≡ r.var → ⊥) → holds (r ∷ rs) v ≡ true → holds rs v ≡ true
    after v other t = sym (ap (λ b. b || holds rs v) (false_unless (nat_eq v r.var) (λ e. absurd (other (eqb-true v r.var e))))) ∙ t

    others : (i : ℕ) (d : Ranked) → i < length rs → has_var (positive r.var ∷ Q) (get_or rs i d).var ≡ has_var Q (get_or rs i d).var
    others i d u = ap (λ b. b || has_var Q (get_or rs i d).var) (false_unless (nat_eq (get_or rs i d).var r.var) (λ t. absurd (h.apart 0 (suc i) d (omega arith) (omega arith) (sym (eqb-true (get_or rs i d).var r.var t)))))

    go : (b : Bool) → has_var P r.var ≡ b → ((m : ℕ) (R : List Literal) → AreRanked s V p rs → AreThere V p R rs → ((i : ℕ) (d : Ranked) → i < length rs → has_var R (get_or rs i d).var ≡ has_var P (get_or rs i d).var)
        → best_ones m (filter p (variables V)) s R ≡ first_free m P rs) → best_ones (suc n) (filter p (variables V)) s Q ≡ (if b then first_free (suc n) P rs else r.var ∷ first_free n P rs)
    go true e rest = rest (suc n) Q (AreRanked-rest s V p r rs h)
        (λ v k t free. after v (λ is. true_false (has_var Q v) (ap (has_var Q) is ∙ (same ∙ e)) free) (there v k t free))
        (λ i d u. agree (suc i) d (omega arith))
    go false e rest = rw (first-top s V p Q r rs h there (same ∙ e), best_ones) (ap (λ xs. r.var ∷ xs) (rest n (positive r.var ∷ Q) (AreRanked-rest s V p r rs h)
        (λ v k t free. after v (λ is. true_false (nat_eq v r.var) (eq-eqb v r.var is) (or-false_left (nat_eq v r.var) (has_var Q v) free)) (there v k t (or-false_right (nat_eq v r.var) (has_var Q v) free)))
        (λ i d u. others i d u ∙ agree (suc i) d (omega arith))))

-- those that are found are free, and as all are
first_free-all : (A : ℕ → Type 0) (n : ℕ) (P : List Literal) (rs : List Ranked) → ((i : ℕ) (d : Ranked) → i < length rs → A (get_or rs i d).var) → All (λ x. A x × (has_var P x ≡ false)) (first_free n P rs)
first_free-all A zero P rs over = All-nil (λ x. A x × (has_var P x ≡ false))
first_free-all A (suc n) P [] over = All-nil (λ x. A x × (has_var P x ≡ false))
first_free-all A (suc n) P (r ∷ rs) over =
    go (has_var P r.var) refl (first_free-all A (suc n) P rs (λ i d u. over (suc i) d (omega arith))) (first_free-all A n P rs (λ i d u. over (suc i) d (omega arith)))
  where
    go : (b : Bool) → has_var P r.var ≡ b → All (λ x. A x × (has_var P x ≡ false)) (first_free (suc n) P rs) → All (λ x. A x × (has_var P x ≡ false)) (first_free n P rs)
        → All (λ x. A x × (has_var P x ≡ false)) (if b then first_free (suc n) P rs else r.var ∷ first_free n P rs)
    go true e same less = same
    go false e same less = All-cons (λ x. A x × (has_var P x ≡ false)) r.var (first_free n P rs) (over 0 r (omega arith), e) less

-- where none is found, none of them is free
first_free-none : (n : ℕ) (P : List Literal) (rs : List Ranked) (v : ℕ) → holds rs v ≡ true → first_free (suc n) P rs ≡ [] → has_var P v ≡ true
first_free-none n P [] v there none = absurd (cc)
first_free-none n P (r ∷ rs) v there none = go (has_var P r.var) refl none (nat_eq v r.var) refl there (first_free-none n P rs v)
  where
    go : (b : Bool) → has_var P r.var ≡ b → (if b then first_free (suc n) P rs else r.var ∷ first_free n P rs) ≡ [] → (c : Bool) → nat_eq v r.var ≡ c → (c || holds rs v) ≡ true
        → (holds rs v ≡ true → first_free (suc n) P rs ≡ [] → has_var P v ≡ true) → has_var P v ≡ true
    go true e q true f t more = ap (has_var P) (eqb-true v r.var f) ∙ e
    go true e q false f t more = more t q
    go false e q c f t more = absurd (cc)

pub empty-length : (xs : List ℕ) → length xs ≡ 0 → xs ≡ []
empty-length [] h = refl
empty-length (x ∷ xs) h = absurd (omega (arith, h))

-- from a place on
first_free-at : (n place : ℕ) (P : List Literal) (rs : List Ranked) (d : Ranked) → place < length rs
    → first_free (suc n) P (drop place rs) ≡ (if has_var P (get_or rs place d).var then first_free (suc n) P (drop (place + 1) rs) else (get_or rs place d).var ∷ first_free n P (drop (place + 1) rs))
first_free-at n place P [] d h = absurd (omega (arith, h))
first_free-at n zero P (r ∷ rs) d h = refl
first_free-at n (suc place) P (r ∷ rs) d h =
    first_free-at n place P rs d (omega arith)
    ∙ ap (λ k. if has_var P (get_or rs place d).var then first_free (suc n) P (drop k (r ∷ rs)) else (get_or rs place d).var ∷ first_free n P (drop k (r ∷ rs))) (let e : suc (place + 1) ≡ suc place + 1 = omega arith in e)

pub found-free : (P : List Literal) (rs : List Ranked) (found all : List ℕ) (place most : ℕ) (r : Ranked) → r ≡ get_or rs place r → place < length rs → length found < most → has_var P r.var ≡ false
    → found ++ first_free (most - length found) P (drop place rs) ≡ all
    → (found ++ r.var ∷ []) ++ first_free (most - length (found ++ r.var ∷ [])) P (drop (place + 1) rs) ≡ all
found-free P rs found all place most r is inside room free h =
    let n = most - length (found ++ r.var ∷ []) in
    let long = length-append found (r.var ∷ []) in
    let count : most - length found ≡ suc n = omega (arith, long, room) in
    let here : first_free (most - length found) P (drop place rs) ≡ r.var ∷ first_free n P (drop (place + 1) rs)
    = ap (λ k. first_free k P (drop place rs)) count ∙ (first_free-at n place P rs r inside
    ∙ (ap (λ (x : Ranked). if has_var P x.var then first_free (suc n) P (drop (place + 1) rs) else x.var ∷ first_free n P (drop (place + 1) rs)) (sym is)
    ∙ ap (λ b. if b then first_free (suc n) P (drop (place + 1) rs) else r.var ∷ first_free n P (drop (place + 1) rs)) free)) in
    append_assoc found (r.var ∷ []) (first_free n P (drop (place + 1) rs)) ∙ (ap (λ ys. found ++ ys) (sym here) ∙ h)

pub found-taken : (P : List Literal) (rs : List Ranked) (found all : List ℕ) (place most : ℕ) (r : Ranked) → r ≡ get_or rs place r → place < length rs → length found < most → has_var P r.var ≡ true
    → found ++ first_free (most - length found) P (drop place rs) ≡ all → found ++ first_free (most - length found) P (drop (place + 1) rs) ≡ all
found-taken P rs found all place most r is inside room taken h =
    let n = most - length found - 1 in
    let count : most - length found ≡ suc n = omega (arith, room) in
    let here : first_free (most - length found) P (drop place rs) ≡ first_free (most - length found) P (drop (place + 1) rs)
    = ap (λ k. first_free k P (drop place rs)) count ∙ (first_free-at n place P rs r inside
    ∙ (ap (λ (x : Ranked). if has_var P x.var then first_free (suc n) P (drop (place + 1) rs) else x.var ∷ first_free n P (drop (place + 1) rs)) (sym is)
    ∙ (ap (λ b. if b then first_free (suc n) P (drop (place + 1) rs) else r.var ∷ first_free n P (drop (place + 1) rs)) taken
    ∙ ap (λ k. first_free k P (drop (place + 1) rs)) (sym count)))) in
    ap (λ ys. found ++ ys) (sym here) ∙ h

-- all are found where there are so many, or no more variables
pub found-enough : (P : List Literal) (rs : List Ranked) (found all : List ℕ) (most : ℕ) → most ≤ length found → found ++ first_free (most - length found) P rs ≡ all → found ≡ all
found-enough P rs found all most enough h =
    let none : most - length found ≡ 0 = omega (arith, enough) in
    sym (append-nil found) ∙ (ap (λ n. found ++ first_free n P rs) (sym none) ∙ h)

pub found-last : (P : List Literal) (rs : List Ranked) (found all : List ℕ) (place n : ℕ) → length rs ≤ place → found ++ first_free n P (drop place rs) ≡ all → found ≡ all
found-last P rs found all place n past h = sym (append-nil found) ∙ (ap (λ ys. found ++ ys) (sym (nothing n) ∙ ap (first_free n P) (sym (drop_all place rs past))) ∙ h)
  where
    nothing : (n : ℕ) → first_free n P [] ≡ []
    nothing zero = refl
    nothing (suc n) = refl

-- a variable has an entry where it is on the trail
pub entry-there : (T : Trail) (v : ℕ) → is_some (option_map (λ (e : Entry). e.lit.positive) (entry_of T v)) ≡ has_var (literals T) v
entry-there [] v = refl
entry-there (e ∷ T) v = go (nat_eq e.lit.var v) (nat_eq v e.lit.var) refl refl (entry-there T v)
  where
    go : (b c : Bool) → nat_eq e.lit.var v ≡ b → nat_eq v e.lit.var ≡ c → is_some (option_map (λ (e : Entry). e.lit.positive) (entry_of T v)) ≡ has_var (literals T) v
        → is_some (option_map (λ (e : Entry). e.lit.positive) (cond b (Some e) (entry_of T v))) ≡ (c || has_var (literals T) v)
    go true true p q h = refl
    go true false p q h = absurd (true_false (nat_eq v e.lit.var) (eq-eqb v e.lit.var (sym (eqb-true e.lit.var v p))) q)
    go false true p q h = absurd (true_false (nat_eq e.lit.var v) (eq-eqb e.lit.var v (sym (eqb-true v e.lit.var q))) p)
    go false false p q h = h

-- the list of all variables, each with its rank
holds-mapped : (f : ℕ → ℕ) (vs : List ℕ) (v : ℕ) → holds (map (ranked_by f) vs) v ≡ list_any (nat_eq v) vs
holds-mapped f [] v = refl
holds-mapped f (x ∷ vs) v = ap (λ b. nat_eq v x || b) (holds-mapped f vs v)

count-mapped : (f : ℕ → ℕ) (vs : List ℕ) (v : ℕ) → count_by (λ (r : Ranked). nat_eq v r.var) (map (ranked_by f) vs) ≡ count_by (nat_eq v) vs
count-mapped f [] v = refl
count-mapped f (x ∷ vs) v =
    sum_by-cons (λ (r : Ranked). cond (nat_eq v r.var) 1 0) (ranked_by f x) (map (ranked_by f) vs)
    ∙ (ap (λ n. cond (nat_eq v x) 1 0 + n) (count-mapped f vs v) ∙ sym (sum_by-cons (λ y. cond (nat_eq v y) 1 0) x vs))

-- a test that passes at two places
count-yes : (p : Ranked → Bool) (x : Ranked) (xs : List Ranked) → p x ≡ true → count_by p (x ∷ xs) ≡ 1 + count_by p xs
count-yes p x xs h = sum_by-cons (λ y. cond (p y) 1 0) x xs ∙ ap (λ b. cond b 1 0 + count_by p xs) h

count-rest : (p : Ranked → Bool) (x : Ranked) (xs : List Ranked) → count_by p xs ≤ count_by p (x ∷ xs)
count-rest p x xs = let all = sum_by-cons (λ y. cond (p y) 1 0) x xs in omega (arith, all)

count-one : (p : Ranked → Bool) (xs : List Ranked) (i : ℕ) (d : Ranked) → i < length xs → p (get_or xs i d) ≡ true → 1 ≤ count_by p xs
count-one p [] i d less h = absurd (omega (arith, less))
count-one p (x ∷ xs) zero d less h = let one = count-yes p x xs h in omega arith
count-one p (x ∷ xs) (suc i) d less h = let more = count-one p xs i d (omega arith) h in let rest = count-rest p x xs in omega arith

count-two : (p : Ranked → Bool) (xs : List Ranked) (i j : ℕ) (d : Ranked) → i < j → j < length xs → p (get_or xs i d) ≡ true → p (get_or xs j d) ≡ true → 2 ≤ count_by p xs
count-two p [] i j d before less h k = absurd (omega (arith, less))
count-two p (x ∷ xs) i zero d before less h k = absurd (omega arith)
count-two p (x ∷ xs) zero (suc j) d before less h k =
    let one = count-yes p x xs h in
    let more = count-one p xs j d (omega arith) k in
    omega arith
count-two p (x ∷ xs) (suc i) (suc j) d before less h k = let more = count-two p xs i j d (omega arith) (omega arith) h k in let rest = count-rest p x xs in omega arith

any-none : (p : Ranked → Bool) (xs : List Ranked) (i : ℕ) (d : Ranked) → list_any p xs ≡ false → i < length xs → p (get_or xs i d) ≡ false
any-none p [] i d h less = absurd (omega (arith, less))
any-none p (x ∷ xs) zero d h less = or-false_left (p x) (list_any p xs) h
any-none p (x ∷ xs) (suc i) d h less = any-none p xs i d (or-false_right (p x) (list_any p xs) h) (omega arith)

not-false : (b : Bool) → not b ≡ false → b ≡ true
not-false true h = refl
not-false false h = absurd (cc)

-- a test passes no more often where others are left out
count-filter : (p q : ℕ → Bool) (vs : List ℕ) → count_by q (filter p vs) ≤ count_by q vs
count-filter p q [] = omega arith
count-filter p q (v ∷ vs) = go (p v) (count-filter p q vs)
  where
    go : (b : Bool) → count_by q (filter p vs) ≤ count_by q vs → count_by q (cond b (v ∷ filter p vs) (filter p vs)) ≤ count_by q (v ∷ vs)
    go true less =
        let a = sum_by-cons (λ y. cond (q y) 1 0) v (filter p vs) in
        let b = sum_by-cons (λ y. cond (q y) 1 0) v vs in
        omega (arith, a, b, less)
    go false less = let b = sum_by-cons (λ y. cond (q y) 1 0) v vs in omega (arith, b, less)

-- whether one isn't as all are made: of a variable that isn't one of these, or with another rank
abbrev is_odd : List ℕ → (ℕ → ℕ) → Ranked → Bool
is_odd all f r = not (list_any (nat_eq r.var) all) || not (nat_eq r.rank (f r.var))

none-odd : (all : List ℕ) (f : ℕ → ℕ) (vs : List ℕ) → ((v : ℕ) → list_any (nat_eq v) vs ≡ true → list_any (nat_eq v) all ≡ true) → list_any (is_odd all f) (map (ranked_by f) vs) ≡ false
none-odd all f [] among = refl
none-odd all f (v ∷ vs) among =
    let here : list_any (nat_eq v) all ≡ true = among v (or-left (nat_eq v v) (list_any (nat_eq v) vs) (eq-eqb v v refl)) in
    let more = none-odd all f vs (λ w t. among w (or-right (nat_eq w v) (list_any (nat_eq w) vs) t)) in
    rw (here, eq-eqb (f v) (f v) refl) more

-- a ranking has what the lemmas above want
module _ (V : ℕ) (K : List Clause) (rs : List Ranked) (h : IsRanking V K rs) where
  abbrev F : Formula
  F = record { vars = V; clauses = K }

  -- the variables that are ranked
  abbrev vs : List ℕ
  vs = filter (is_held K) (variables V)

  there : (Q : List Literal) → AreThere V (is_held K) Q rs
  there Q v k t free =
      sym (list_any-IsPermutation (λ (r : Ranked). nat_eq v r.var) (map (ranked_by (rank K)) vs) rs h.permutation)
      ∙ (holds-mapped (rank K) vs v ∙ held-has F v k t)

  once : (v : ℕ) → count_by (λ (r : Ranked). nat_eq v r.var) rs ≤ 1
  once v =
      let same = sum_by-IsPermutation (λ (r : Ranked). cond (nat_eq v r.var) 1 0) (map (ranked_by (rank K)) vs) rs h.permutation in
      let mapped = count-mapped (rank K) vs v in
      let fewer = count-filter (is_held K) (nat_eq v) (variables V) in
      let one = variables-once V v in
      omega (arith, same, mapped, fewer, one)

  plain : (i : ℕ) (d : Ranked) → i < length rs → is_odd vs (rank K) (get_or rs i d) ≡ false
  plain i d u = any-none (is_odd vs (rank K)) rs i d
      (sym (list_any-IsPermutation (is_odd vs (rank K)) (map (ranked_by (rank K)) vs) rs h.permutation) ∙ none-odd vs (rank K) vs (λ v t. t)) u

  variable : (i : ℕ) (d : Ranked) → i < length rs → IsVariable V (get_or rs i d).var × (is_held K (get_or rs i d).var ≡ true)
  variable i d u =
      let v = (get_or rs i d).var in
      let among : list_any (nat_eq v) vs ≡ true = not-false _ (or-false_left _ _ (plain i d u)) in
      (held-variable F v among, held-is F v among)

  AreRanked-IsRanking : AreRanked (ranks V K) V (is_held K) rs
  AreRanked-IsRanking = record {
    far = λ i j d l u. sorted_far goes_before order rs h.sorted i j d l u;
    chosen = variable;
    scored = λ i d u.
        let r = get_or rs i d in
        let is : r.rank ≡ rank K r.var = eqb-true r.rank (rank K r.var) (not-false _ (or-false_right _ _ (plain i d u))) in
        is ∙ sym (at-variable (rank K) V r.var 0 (variable i d u).0);
    apart = λ i j d l u e.
        let v = (get_or rs i d).var in
        let two = count-two (λ (r : Ranked). nat_eq v r.var) rs i j d l u (eq-eqb v v refl) (eq-eqb v (get_or rs j d).var e) in
        let one = once v in
        omega (arith, two, one);
  }

  pub first_free-free : (n : ℕ) (P : List Literal) → All (λ x. IsVariable V x × (has_var P x ≡ false)) (first_free n P rs)
  first_free-free n P = first_free-all (IsVariable V) n P rs (λ i d u. (variable i d u).0)

  pub best_ones-free : (n : ℕ) (P : List Literal) → best_ones n (filter (is_held K) (variables V)) (ranks V K) P ≡ first_free n P rs
  best_ones-free n P = best-first (ranks V K) V (is_held K) rs n P P AreRanked-IsRanking (there P) (λ i d u. refl)

  -- none is found just where none is free
  pub none-free : (n : ℕ) (P : List Literal) (v : ℕ) → first_free (suc n) P rs ≡ [] → IsVariable V v → is_held K v ≡ true → has_var P v ≡ true
  none-free n P v none k t = go (has_var P v) refl
    where
      go : (b : Bool) → has_var P v ≡ b → has_var P v ≡ true
      go true e = e
      go false e = first_free-none n P rs v (there P v k t e) none

  pub some-free : (n : ℕ) (P : List Literal) → ((v : ℕ) → IsVariable V v → is_held K v ≡ true → has_var P v ≡ true) → first_free n P rs ≡ []
  some-free n P all = go (first_free n P rs) (first_free-all (λ x. IsVariable V x × (is_held K x ≡ true)) n P rs variable)
    where
      go : (xs : List ℕ) → All (λ x. (IsVariable V x × (is_held K x ≡ true)) × (has_var P x ≡ false)) xs → xs ≡ []
      go [] a = refl
      go (x ∷ xs) a =
          let first = All-head (λ x. (IsVariable V x × (is_held K x ≡ true)) × (has_var P x ≡ false)) x xs a in
          true_false (has_var P x) (all x first.0.0 first.0.1) first.1
