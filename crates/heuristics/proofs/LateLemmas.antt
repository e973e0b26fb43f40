-- The candidates behind the first quarter, once they are sorted.
use Rattle.std.proofs.Common.{◌≡◌, ◌≢◌, ℕ, zero, suc, ◌+◌, ◌-◌, ◌/◌, ◌<◌, ◌≤◌, Bool, true, false, not, cond, List, [], ◌∷◌, length, map, filter, drop, get_or, nat_eq, nat_le, eqb-true, eq-eqb, le-leb, refl, ap, sym, subst, ◌∙◌, ◌⊎◌, inl, inr, All, if◌then◌else◌, arith}
use Rattle.std.specs.List.{count_by}
use Rattle.std.specs.List.Sorted.{IsPermutation, IsSortedBy}
use Rattle.std.proofs.lemmas.Bool.{lt-leb, cases_lt}
use Rattle.std.proofs.lemmas.List.{get_or_default, length-map, length-drop}
use Rattle.std.proofs.lemmas.List.Elements.{All-head, All-tail, All-from_get_or, All-weaker}
use Rattle.std.proofs.lemmas.List.Sums.{sum_by-cons, length-filter}
use Rattle.std.proofs.lemmas.List.Sorted.{sorted_far, length_permutation, sum_by-IsPermutation, IsPermutation-sym, All-permutation}
use Rattle.theory.specs.Literals.{Clause}
use Rattle.theory.specs.Trails.{Trail}
use Rattle.theory.specs.Plans.{Constants}
use Rattle.theory.specs.Forgetting.{Mark, Candidate, candidates, may_go, goes_before, is_late, late_ones}
use Rattle.theory.proofs.literals.LiteralSets.{false_unless}
use Rattle.heuristics.specs.Lateness.{AreOfDistinctNumbers}
use Rattle.heuristics.proofs.CandidateOrder.{order, goes_before-other}

-- a test that fails on the first m and passes behind keeps what is behind them
filter-behind : {X : Type 0} (p : X → Bool) (m : ℕ) (xs : List X) → ((i : ℕ) (d : X) → i < m → i < length xs → p (get_or xs i d) ≡ false)
    → ((i : ℕ) (d : X) → m ≤ i → i < length xs → p (get_or xs i d) ≡ true) → filter p xs ≡ drop m xs
filter-behind p zero [] before behind = refl
filter-behind p (suc m) [] before behind = refl
filter-behind p zero (x ∷ xs) before behind =
    let here : p x ≡ true = behind 0 x (omega arith) (omega arith) in
    let more : filter p xs ≡ xs = filter-behind p zero xs (λ i d l u. absurd (omega arith)) (λ i d l u. behind (suc i) d (omega arith) (omega arith)) in
    ap (λ b. cond b (x ∷ filter p xs) (filter p xs)) here ∙ ap (λ ys. x ∷ ys) more
filter-behind p (suc m) (x ∷ xs) before behind =
    let here : p x ≡ false = before 0 x (omega arith) (omega arith) in
    let more : filter p xs ≡ drop m xs = filter-behind p m xs (λ i d l u. before (suc i) d (omega arith) (omega arith)) (λ i d l u. behind (suc i) d (omega arith) (omega arith)) in
    ap (λ b. cond b (x ∷ filter p xs) (filter p xs)) here ∙ more

count-yes : {X : Type 0} (p : X → Bool) (x : X) (xs : List X) → p x ≡ true → count_by p (x ∷ xs) ≡ 1 + count_by p xs
count-yes p x xs h = sum_by-cons (λ y. cond (p y) 1 0) x xs ∙ ap (λ b. cond b 1 0 + count_by p xs) h

count-no : {X : Type 0} (p : X → Bool) (x : X) (xs : List X) → p x ≡ false → count_by p (x ∷ xs) ≡ 0 + count_by p xs
count-no p x xs h = sum_by-cons (λ y. cond (p y) 1 0) x xs ∙ ap (λ b. cond b 1 0 + count_by p xs) h

-- a test that passes on the first i and fails behind passes i times
count-first : {X : Type 0} (p : X → Bool) (i : ℕ) (xs : List X) → i ≤ length xs → ((j : ℕ) (d : X) → j < i → p (get_or xs j d) ≡ true)
    → ((j : ℕ) (d : X) → i ≤ j → j < length xs → p (get_or xs j d) ≡ false) → count_by p xs ≡ i
count-first p zero [] few before behind = refl
count-first p (suc i) [] few before behind = absurd (omega (arith, few))
count-first p zero (x ∷ xs) few before behind =
    let here : p x ≡ false = behind 0 x (omega arith) (omega arith) in
    let more : count_by p xs ≡ 0 = count-first p zero xs (omega arith) (λ j d l. absurd (omega arith)) (λ j d l u. behind (suc j) d (omega arith) (omega arith)) in
    let one = count-no p x xs here in
    omega arith
count-first p (suc i) (x ∷ xs) few before behind =
    let here : p x ≡ true = before 0 x (omega arith) in
    let more : count_by p xs ≡ i = count-first p i xs (omega arith) (λ j d l. before (suc j) d (omega arith)) (λ j d l u. behind (suc j) d (omega arith) (omega arith)) in
    let one = count-yes p x xs here in
    omega arith

count-rest : {X : Type 0} (p : X → Bool) (x : X) (xs : List X) → count_by p xs ≤ count_by p (x ∷ xs)
count-rest p x xs = go (p x) refl
  where
    go : (b : Bool) → p x ≡ b → count_by p xs ≤ count_by p (x ∷ xs)
    go true e = let one = count-yes p x xs e in omega arith
    go false e = let one = count-no p x xs e in omega arith

-- a test that passes at a place, and at two
count-one : {X : Type 0} (p : X → Bool) (xs : List X) (i : ℕ) (d : X) → i < length xs → p (get_or xs i d) ≡ true → 1 ≤ count_by p xs
count-one p [] i d less h = absurd (omega (arith, less))
count-one p (x ∷ xs) zero d less h = let one = count-yes p x xs h in omega arith
count-one p (x ∷ xs) (suc i) d less h = let more = count-one p xs i d (omega arith) h in let rest = count-rest p x xs in omega arith

count-two : {X : Type 0} (p : X → Bool) (xs : List X) (i j : ℕ) (d : X) → i < j → j < length xs → p (get_or xs i d) ≡ true → p (get_or xs j d) ≡ true → 2 ≤ count_by p xs
count-two p [] i j d before less h k = absurd (omega (arith, less))
count-two p (x ∷ xs) i zero d before less h k = absurd (omega arith)
count-two p (x ∷ xs) zero (suc j) d before less h k =
    let one = count-yes p x xs h in
    let more = count-one p xs j d (omega arith) k in
    omega arith
count-two p (x ∷ xs) (suc i) (suc j) d before less h k = let more = count-two p xs i j d (omega arith) (omega arith) h k in let rest = count-rest p x xs in omega arith

-- numbers differ at two places
apart : (ys : List Candidate) (i j : ℕ) (d : Candidate) → AreOfDistinctNumbers ys → i < j → j < length ys → (get_or ys i d).number ≢ (get_or ys j d).number
apart ys i j d h before less e =
    let n = (get_or ys j d).number in
    let two = count-two (λ (a : Candidate). nat_eq n a.number) ys i j d before less (eq-eqb n (get_or ys i d).number (sym e)) (eq-eqb n n refl) in
    let one = h n in
    omega arith

-- in a sorted list a candidate goes before those behind it, and before no other
module _ (ys : List Candidate) (j i : ℕ) (e d : Candidate) (sorted : IsSortedBy goes_before ys) where
  goes-later : i ≤ j → j < length ys → goes_before (get_or ys j e) (get_or ys i d) ≡ false
  goes-later l u = ap (λ a. goes_before a (get_or ys i d)) (get_or_default ys j e d u) ∙ sorted_far goes_before order ys sorted i j d l u

  goes-first : AreOfDistinctNumbers ys → j < i → i < length ys → goes_before (get_or ys j e) (get_or ys i d) ≡ true
  goes-first distinct l less = goes_before-other (get_or ys j e) (get_or ys i d) differ far
    where
      same : get_or ys j e ≡ get_or ys j d
      same = get_or_default ys j e d (omega arith)

      differ : (get_or ys j e).number ≢ (get_or ys i d).number
      differ f = apart ys j i d distinct l less (ap (λ (a : Candidate). a.number) (sym same) ∙ f)

      far : goes_before (get_or ys i d) (get_or ys j e) ≡ false
      far = ap (goes_before (get_or ys i d)) same ∙ sorted_far goes_before order ys sorted j i d (omega arith) less

-- so as many go before a candidate as stand before it
count-sorted : (ys : List Candidate) (i : ℕ) (d : Candidate) → AreOfDistinctNumbers ys → IsSortedBy goes_before ys → i < length ys → count_by (λ b. goes_before b (get_or ys i d)) ys ≡ i
count-sorted ys i d distinct sorted less =
    count-first (λ b. goes_before b (get_or ys i d)) i ys (omega arith) (λ j e l. goes-first ys j i e d sorted distinct l less) (λ j e l u. goes-later ys j i e d sorted l u)

late-sorted : (ys : List Candidate) (i : ℕ) (d : Candidate) → AreOfDistinctNumbers ys → IsSortedBy goes_before ys → i < length ys → is_late ys (get_or ys i d) ≡ nat_le (length ys / 4) i
late-sorted ys i d distinct sorted less = ap (nat_le (length ys / 4)) (count-sorted ys i d distinct sorted less)

-- the late ones are behind the first quarter
filter-sorted : (ys : List Candidate) → AreOfDistinctNumbers ys → IsSortedBy goes_before ys → filter (is_late ys) ys ≡ drop (length ys / 4) ys
filter-sorted ys distinct sorted =
    filter-behind (is_late ys) (length ys / 4) ys
    (λ i d l u. late-sorted ys i d distinct sorted u ∙ lt-leb (length ys / 4) i l)
    (λ i d l u. late-sorted ys i d distinct sorted u ∙ le-leb (length ys / 4) i l)

-- they are those that don't go before the first one there
late-first : (ys : List Candidate) (d : Candidate) → AreOfDistinctNumbers ys → IsSortedBy goes_before ys → length ys / 4 < length ys
    → All (λ a. not (goes_before a (get_or ys (length ys / 4) d)) ≡ is_late ys a) ys
late-first ys d distinct sorted some = All-from_get_or (λ a. not (goes_before a (get_or ys k d)) ≡ is_late ys a) ys d (λ i less. place i less (cases_lt i k))
  where
    k : ℕ
    k = length ys / 4

    place : (i : ℕ) → i < length ys → (i < k) ⊎ (k ≤ i) → not (goes_before (get_or ys i d) (get_or ys k d)) ≡ is_late ys (get_or ys i d)
    place i less (inl l) = ap not (goes-first ys i k d d sorted distinct l some) ∙ sym (late-sorted ys i d distinct sorted less ∙ lt-leb k i l)
    place i less (inr l) = ap not (goes-later ys i k d d sorted l less) ∙ sym (late-sorted ys i d distinct sorted less ∙ le-leb k i l)

-- the same candidates in another order
distinct-permutation : (xs ys : List Candidate) → IsPermutation xs ys → AreOfDistinctNumbers xs → AreOfDistinctNumbers ys
distinct-permutation xs ys p h n = let same = sum_by-IsPermutation (λ (a : Candidate). cond (nat_eq n a.number) 1 0) xs ys p in let one = h n in omega arith

late-permutation : (xs ys : List Candidate) → IsPermutation xs ys → (a : Candidate) → is_late xs a ≡ is_late ys a
late-permutation xs ys p a =
    let long : length xs ≡ length ys = sym (length_permutation xs ys p) in
    let count : count_by (λ b. goes_before b a) xs ≡ count_by (λ b. goes_before b a) ys = sym (sum_by-IsPermutation (λ b. cond (goes_before b a) 1 0) xs ys p) in
    ap (λ n. nat_le (n / 4) (count_by (λ b. goes_before b a) xs)) long ∙ ap (nat_le (length ys / 4)) count

filter-same : (p q : Candidate → Bool) (xs : List Candidate) → All (λ a. p a ≡ q a) xs → filter p xs ≡ filter q xs
filter-same p q [] h = refl
filter-same p q (x ∷ xs) h =
    ap (λ b. cond b (x ∷ filter p xs) (filter p xs)) (All-head (λ a. p a ≡ q a) x xs h)
    ∙ ap (λ ys. cond (q x) (x ∷ ys) ys) (filter-same p q xs (All-tail (λ a. p a ≡ q a) x xs h))

-- so the late ones of candidates in any order are those that don't go before this one
module _ (xs ys : List Candidate) (distinct : AreOfDistinctNumbers xs) (p : IsPermutation xs ys) (sorted : IsSortedBy goes_before ys) where
  pub late-numbers : (first : Candidate) (k : ℕ) → k ≡ length ys / 4 → k < length ys → first ≡ get_or ys k first → map (λ (a : Candidate). a.number) (filter (λ a. not (goes_before a first)) xs) ≡ late_ones xs
  late-numbers first k quarter some is = ap (map (λ (a : Candidate). a.number)) (filter-same (λ a. not (goes_before a first)) (is_late xs) xs same)
    where
      place : get_or ys (length ys / 4) first ≡ first
      place = ap (λ i. get_or ys i first) (sym quarter) ∙ sym is

      found : All (λ a. not (goes_before a first) ≡ is_late ys a) ys
      found = subst (λ (f : Candidate). All (λ a. not (goes_before a f) ≡ is_late ys a) ys) place (late-first ys first (distinct-permutation xs ys p distinct) sorted (omega (arith, some, quarter)))

      same : All (λ a. not (goes_before a first) ≡ is_late xs a) xs
      same =
          All-weaker (λ a. not (goes_before a first) ≡ is_late ys a) (λ a. not (goes_before a first) ≡ is_late xs a) (λ a e. e ∙ sym (late-permutation xs ys p a)) xs
          (All-permutation (λ a. not (goes_before a first) ≡ is_late ys a) ys xs (IsPermutation-sym xs ys p) found)

  -- and these are all but a quarter
  pub count-late : length (late_ones xs) ≡ length xs - length xs / 4
  count-late =
      let long : length ys ≡ length xs = length_permutation xs ys p in
      let mapped : length (late_ones xs) ≡ length (filter (is_late xs) xs) = length-map (filter (is_late xs) xs) (λ (a : Candidate). a.number) in
      let counted : length (filter (is_late xs) xs) ≡ count_by (is_late xs) xs = length-filter (is_late xs) xs in
      let moved : count_by (is_late xs) ys ≡ count_by (is_late xs) xs = sum_by-IsPermutation (λ a. cond (is_late xs a) 1 0) xs ys p in
      let behind : length (filter (is_late ys) ys) ≡ length ys - length ys / 4 = ap length (filter-sorted ys (distinct-permutation xs ys p distinct) sorted) ∙ length-drop (length ys / 4) ys in
      let other : filter (is_late xs) ys ≡ filter (is_late ys) ys =
      filter-same (is_late xs) (is_late ys) ys (λ i d less. late-permutation xs ys p (get_or ys i d)) in
      mapped ∙ (counted ∙ (sym moved ∙ (sym (length-filter (is_late xs) ys) ∙ (ap length other ∙ (behind ∙ ap (λ n. n - n / 4) long)))))

-- the candidates of learnt clauses have distinct numbers
none-below : (c : Constants) (T : Trail) (n : ℕ) (learnt : List Clause) (marks : List Mark) (k : ℕ) → k < n → count_by (λ (a : Candidate). nat_eq k a.number) (candidates c T n learnt marks) ≡ 0
none-below c T n [] marks k less = refl
none-below c T n (clause ∷ learnt) [] k less = refl
none-below c T n (clause ∷ learnt) (m ∷ marks) k less = go (may_go c T n clause m) (none-below c T (n + 1) learnt marks k (omega arith))
  where
    other : nat_eq k n ≡ false
    other = false_unless (nat_eq k n) (λ t. let e = eqb-true k n t in omega arith)

    go : (b : Bool) → count_by (λ (a : Candidate). nat_eq k a.number) (candidates c T (n + 1) learnt marks) ≡ 0
        → count_by (λ (a : Candidate). nat_eq k a.number) (if b then record { number = n; glue = m.glue; size = length clause } ∷ candidates c T (n + 1) learnt marks else candidates c T (n + 1) learnt marks) ≡ 0
    go true e = (let one = count-no (λ (a : Candidate). nat_eq k a.number) (record { number = n; glue = m.glue; size = length clause }) (candidates c T (n + 1) learnt marks) other in omega arith)
    go false e = e

pub candidates-distinct : (c : Constants) (T : Trail) (n : ℕ) (learnt : List Clause) (marks : List Mark) → AreOfDistinctNumbers (candidates c T n learnt marks)
candidates-distinct c T n [] marks k = omega arith
candidates-distinct c T n (clause ∷ learnt) [] k = omega arith
candidates-distinct c T n (clause ∷ learnt) (m ∷ marks) k = go (may_go c T n clause m) (candidates-distinct c T (n + 1) learnt marks k)
  where
    with-new : count_by (λ (a : Candidate). nat_eq k a.number) (candidates c T (n + 1) learnt marks) ≤ 1 → (b : Bool) → nat_eq k n ≡ b
        → count_by (λ (a : Candidate). nat_eq k a.number) (record { number = n; glue = m.glue; size = length clause } ∷ candidates c T (n + 1) learnt marks) ≤ 1
    with-new most true e =
        let same = eqb-true k n e in
        let none = none-below c T (n + 1) learnt marks k (omega arith) in
        let one = count-yes (λ (a : Candidate). nat_eq k a.number) (record { number = n; glue = m.glue; size = length clause }) (candidates c T (n + 1) learnt marks) e in
        omega arith
    with-new most false e =
        let one = count-no (λ (a : Candidate). nat_eq k a.number) (record { number = n; glue = m.glue; size = length clause }) (candidates c T (n + 1) learnt marks) e in
        omega arith

    go : (b : Bool) → count_by (λ (a : Candidate). nat_eq k a.number) (candidates c T (n + 1) learnt marks) ≤ 1
        → count_by (λ (a : Candidate). nat_eq k a.number) (if b then record { number = n; glue = m.glue; size = length clause } ∷ candidates c T (n + 1) learnt marks else candidates c T (n + 1) learnt marks) ≤ 1
    go true most = with-new most (nat_eq k n) refl
    go false most = most
