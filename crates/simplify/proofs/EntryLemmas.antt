-- Entries: one more at the end, one that goes, and the numbers of those that pass a test.
use Rattle.std.proofs.Common.{◌≡◌, ℕ, zero, suc, ◌+◌, ◌-◌, ◌<◌, ◌≤◌, Bool, true, false, not, ◌||◌, cond, nat_eq, nat_lt, eq-eqb, List, [], ◌∷◌, ◌++◌, map, take, length, filter, Option, Some, None, is_some, get_or, slice_get, slice_set, ◌⊎◌, inl, inr, refl, ap, sym, ◌∙◌, subst, arith}
use Rattle.std.specs.List.{list_any}
use Rattle.std.specs.Option.{unwrap_or}
use Rattle.std.proofs.lemmas.Bool.Decides.{nat_tests}
use Rattle.std.proofs.lemmas.List.{take_more, map-append}
use Rattle.std.proofs.lemmas.List.Sums.{sum_by-cons, sum_by_push, sum_by-set, count_by-le-length}
use Rattle.std.proofs.lemmas.Option.{slice_get_within, slice_get_cases, get_or_from_slice_get}
use Rattle.theory.specs.Literals.{Clause}
use Rattle.simplify.specs.Entries.{Entries, entry_at, passes, numbers_in, entry_of, IsThere, IsSet, AreSets}
use Rattle.simplify.specs.Tables.{entries_of, passing, one_if}

pub length-entries : (there : List Bool) (S : List Clause) → length there ≡ length S → length (entries_of there S) ≡ length there
length-entries [] S h = refl
length-entries (b ∷ there) [] h = absurd (omega arith)
length-entries (b ∷ there) (c ∷ S) h = ap suc (length-entries there S (omega arith))

pub entry-at : (there : List Bool) (S : List Clause) (i : ℕ) (c : Clause) → i < length there → slice_get S i ≡ Some c → slice_get (entries_of there S) i ≡ Some (cond (get_or there i false) (Some c) None)
entry-at [] S i c less at = absurd (omega arith)
entry-at (b ∷ there) [] i c less at = absurd (cc)
entry-at (b ∷ there) (d ∷ S) zero c less at = ap (λ (o : Option Clause). Some (cond b o None)) at
entry-at (b ∷ there) (d ∷ S) (suc i) c less at = entry-at there S i c (omega arith) at

pub entries-push : (there : List Bool) (S : List Clause) (b : Bool) (c : Clause) → length there ≡ length S → entries_of (there ++ b ∷ []) (S ++ c ∷ []) ≡ entries_of there S ++ cond b (Some c) None ∷ []
entries-push [] [] b c h = refl
entries-push [] (d ∷ S) b c h = absurd (omega arith)
entries-push (a ∷ there) [] b c h = absurd (omega arith)
entries-push (a ∷ there) (d ∷ S) b c h = ap (λ (K : Entries). cond a (Some d) None ∷ K) (entries-push there S b c (omega arith))

pub entries-gone : (there : List Bool) (S : List Clause) (i : ℕ) → i < length there → length there ≡ length S → entries_of (slice_set there i false) S ≡ slice_set (entries_of there S) i None
entries-gone [] S i less h = absurd (omega arith)
entries-gone (b ∷ there) [] i less h = absurd (omega arith)
entries-gone (b ∷ there) (c ∷ S) zero less h = refl
entries-gone (b ∷ there) (c ∷ S) (suc i) less h = ap (λ (K : Entries). cond b (Some c) None ∷ K) (entries-gone there S i (omega arith) (omega arith))

-- the numbers of those that pass
pub numbers_in-push : (p : Clause → Bool) (n : ℕ) (K : Entries) (e : Option Clause) → numbers_in p n (K ++ e ∷ []) ≡ numbers_in p n K ++ cond (passes p e) ((n + length K) ∷ []) []
numbers_in-push p n [] e = ap (λ m. cond (passes p e) (m ∷ []) []) (let none : n ≡ n + 0 = omega arith in none)
numbers_in-push p n (d ∷ K) e = go (passes p d) (numbers_in-push p (n + 1) K e ∙ ap (λ m. numbers_in p (n + 1) K ++ cond (passes p e) (m ∷ []) []) (let next : n + 1 + length K ≡ n + length (d ∷ K) = omega arith in next))
  where
    go : (b : Bool) → numbers_in p (n + 1) (K ++ e ∷ []) ≡ numbers_in p (n + 1) K ++ cond (passes p e) ((n + length (d ∷ K)) ∷ []) []
        → cond b (n ∷ numbers_in p (n + 1) (K ++ e ∷ [])) (numbers_in p (n + 1) (K ++ e ∷ [])) ≡ cond b (n ∷ numbers_in p (n + 1) K) (numbers_in p (n + 1) K) ++ cond (passes p e) ((n + length (d ∷ K)) ∷ []) []
    go true more = ap (λ (ns : List ℕ). n ∷ ns) more
    go false more = more

pub length-numbers_in : (p : Clause → Bool) (n : ℕ) (K : Entries) → length (numbers_in p n K) ≡ passing p K
length-numbers_in p n [] = refl
length-numbers_in p n (e ∷ K) = go (passes p e) (length-numbers_in p (n + 1) K) ∙ sym (sum_by-cons (λ (d : Option Clause). cond (passes p d) 1 0) e K)
  where
    go : (b : Bool) → length (numbers_in p (n + 1) K) ≡ passing p K → length (cond b (n ∷ numbers_in p (n + 1) K) (numbers_in p (n + 1) K)) ≡ cond b 1 0 + passing p K
    go true more = omega (arith, more)
    go false more = omega (arith, more)

passes-same : (p q : Clause → Bool) (e : Option Clause) → ((c : Clause) → p c ≡ q c) → passes p e ≡ passes q e
passes-same p q None h = refl
passes-same p q (Some c) h = h c

pub numbers_in-same : (p q : Clause → Bool) (n : ℕ) (K : Entries) → ((c : Clause) → p c ≡ q c) → numbers_in p n K ≡ numbers_in q n K
numbers_in-same p q n [] h = refl
numbers_in-same p q n (e ∷ K) h = (λ i. cond (passes-same p q e h i) (n ∷ numbers_in-same p q (n + 1) K h i) (numbers_in-same p q (n + 1) K h i))

-- all the numbers are at least the first
later : (p : Clause → Bool) (n m : ℕ) (K : Entries) → m < n → filter (λ k. not (nat_eq k m)) (numbers_in p n K) ≡ numbers_in p n K
later p n m [] h = refl
later p n m (e ∷ K) h = go (passes p e) (later p (n + 1) m K (omega arith))
  where
    other : nat_eq n m ≡ false
    other = grind (arith, nat_tests)

    go : (b : Bool) → filter (λ k. not (nat_eq k m)) (numbers_in p (n + 1) K) ≡ numbers_in p (n + 1) K
        → filter (λ k. not (nat_eq k m)) (cond b (n ∷ numbers_in p (n + 1) K) (numbers_in p (n + 1) K)) ≡ cond b (n ∷ numbers_in p (n + 1) K) (numbers_in p (n + 1) K)
    go true more = (λ i. cond (not (other i)) (n ∷ more i) (more i))
    go false more = more

-- one that goes takes its number with it
pub numbers_in-gone : (p : Clause → Bool) (n i : ℕ) (K : Entries) → i < length K → numbers_in p n (slice_set K i None) ≡ filter (λ k. not (nat_eq k (n + i))) (numbers_in p n K)
numbers_in-gone p n i [] less = absurd (omega arith)
numbers_in-gone p n zero (e ∷ K) less = sym (go (passes p e) (later p (n + 1) (n + 0) K (omega arith)))
  where
    here : nat_eq n (n + 0) ≡ true
    here = eq-eqb n (n + 0) (omega arith)

    go : (b : Bool) → filter (λ k. not (nat_eq k (n + 0))) (numbers_in p (n + 1) K) ≡ numbers_in p (n + 1) K
        → filter (λ k. not (nat_eq k (n + 0))) (cond b (n ∷ numbers_in p (n + 1) K) (numbers_in p (n + 1) K)) ≡ numbers_in p (n + 1) K
    go true more = (λ j. cond (not (here j)) (n ∷ filter (λ k. not (nat_eq k (n + 0))) (numbers_in p (n + 1) K)) (filter (λ k. not (nat_eq k (n + 0))) (numbers_in p (n + 1) K))) ∙ more
    go false more = more
numbers_in-gone p n (suc i) (e ∷ K) less =
    go (passes p e) (numbers_in-gone p (n + 1) i K (omega arith) ∙ ap (λ m. filter (λ k. not (nat_eq k m)) (numbers_in p (n + 1) K)) (let next : n + 1 + i ≡ n + suc i = omega arith in next))
  where
    other : nat_eq n (n + suc i) ≡ false
    other = grind (arith, nat_tests)

    go : (b : Bool) → numbers_in p (n + 1) (slice_set K i None) ≡ filter (λ k. not (nat_eq k (n + suc i))) (numbers_in p (n + 1) K)
        → cond b (n ∷ numbers_in p (n + 1) (slice_set K i None)) (numbers_in p (n + 1) (slice_set K i None))
        ≡ filter (λ k. not (nat_eq k (n + suc i))) (cond b (n ∷ numbers_in p (n + 1) K) (numbers_in p (n + 1) K))
    go true more = (λ j. n ∷ more j) ∙ (λ j. cond (not (sym other j)) (n ∷ filter (λ k. not (nat_eq k (n + suc i))) (numbers_in p (n + 1) K)) (filter (λ k. not (nat_eq k (n + suc i))) (numbers_in p (n + 1) K)))
    go false more = more

-- how many pass
pub passing-push : (p : Clause → Bool) (K : Entries) (c : Clause) → passing p (K ++ Some c ∷ []) ≡ passing p K + one_if (p c)
passing-push p K c = sum_by_push (λ (e : Option Clause). cond (passes p e) 1 0) K (Some c)

pub passing-push_none : (p : Clause → Bool) (K : Entries) → passing p (K ++ None ∷ []) ≡ passing p K
passing-push_none p K = sum_by_push (λ (e : Option Clause). cond (passes p e) 1 0) K None ∙ (let none : passing p K + 0 ≡ passing p K = omega arith in none)

-- the clause at a place
read-place : (K : Entries) (i : ℕ) (c : Clause) → slice_get K i ≡ Some (Some c) → get_or K i None ≡ Some c
read-place K i c at = get_or_from_slice_get K i (Some c) None at

pub passing-gone : (p : Clause → Bool) (K : Entries) (i : ℕ) (c : Clause) → slice_get K i ≡ Some (Some c) → passing p K ≡ passing p (slice_set K i None) + one_if (p c)
passing-gone p K i c at =
    let f : Option Clause → ℕ = λ (e : Option Clause). cond (passes p e) 1 0 in
    let less : i < length K = slice_get_within K i (Some c) at in
    let both : passing p (slice_set K i None) + f (get_or K i None) ≡ passing p K + 0 = sum_by-set f K i None None less in
    let here : f (get_or K i None) ≡ one_if (p c) = ap f (read-place K i c at) in
    omega arith

pub passing-some : (p : Clause → Bool) (K : Entries) (i : ℕ) (c : Clause) → slice_get K i ≡ Some (Some c) → one_if (p c) ≤ passing p K
passing-some p K i c at = let all = passing-gone p K i c at in omega arith

pub passing-few : (p : Clause → Bool) (K : Entries) → passing p K ≤ length K
passing-few p K = count_by-le-length (passes p) K

pub passing-any : (p : Clause → Bool) (K : Entries) → nat_lt 0 (passing p K) ≡ list_any (passes p) K
passing-any p [] = refl
passing-any p (e ∷ K) = ap (nat_lt 0) (sum_by-cons (λ (d : Option Clause). cond (passes p d) 1 0) e K) ∙ go (passes p e) (passing-any p K)
  where
    go : (b : Bool) → nat_lt 0 (passing p K) ≡ list_any (passes p) K → nat_lt 0 (cond b 1 0 + passing p K) ≡ b || list_any (passes p) K
    go true more = grind (arith, nat_tests)
    go false more = ap (nat_lt 0) (let none : 0 + passing p K ≡ passing p K = omega arith in none) ∙ more

-- the entry of a number
pub at-from_entry : (K : Entries) (n : ℕ) (c : Clause) → entry_at K n ≡ Some c → slice_get K (n - 1) ≡ Some (Some c)
at-from_entry K n c h = go (slice_get K (n - 1)) h
  where
    go : (o : Option (Option Clause)) → unwrap_or o None ≡ Some c → o ≡ Some (Some c)
    go None e = absurd (cc)
    go (Some x) e = ap Some e

pub entry-from_at : (K : Entries) (n : ℕ) (e : Option Clause) → slice_get K (n - 1) ≡ Some e → entry_at K n ≡ e
entry-from_at K n e at = ap (λ (o : Option (Option Clause)). unwrap_or o None) at

pub clause-there : (K : Entries) (n : ℕ) → is_some (entry_at K n) ≡ true → (c : Clause) × (entry_at K n ≡ Some c)
clause-there K n h = go (entry_at K n) h
  where
    go : (o : Option Clause) → is_some o ≡ true → (c : Clause) × (o ≡ Some c)
    go None e = absurd (cc)
    go (Some c) e = (c, refl)

-- of kept clauses
pub live-at : (there : List Bool) (S : List Clause) (n : ℕ) → length there ≡ length S → 1 ≤ n → n ≤ length there → is_some (entry_at (entries_of there S) n) ≡ get_or there (n - 1) false
live-at there S n each some last = go (slice_get_cases S (n - 1)).1
  where
    cases : (b : Bool) (c : Clause) → is_some (cond b (Some c) None) ≡ b
    cases true c = refl
    cases false c = refl

    go : ((c : Clause) × (n - 1 < length S) × (slice_get S (n - 1) ≡ Some c) × (get_or S (n - 1) c ≡ c)) ⊎ ((length S ≤ n - 1) × (slice_get S (n - 1) ≡ None)) → is_some (entry_at (entries_of there S) n) ≡ get_or there (n - 1) false
    go (inl h) = ap is_some (entry-from_at (entries_of there S) n (cond (get_or there (n - 1) false) (Some h.0) None) (entry-at there S (n - 1) h.0 (omega arith) h.2)) ∙ cases (get_or there (n - 1) false) h.0
    go (inr h) = absurd (let past = h.0 in omega arith)

pub entry-is : (there : List Bool) (S : List Clause) (n : ℕ) (c : Clause) → length there ≡ length S → IsThere (entries_of there S) n → slice_get S (n - 1) ≡ Some c → entry_at (entries_of there S) n ≡ Some c
entry-is there S n c each h at =
    let last : n ≤ length there = subst (λ m. n ≤ m) (length-entries there S each) h.1 in
    let some = h.0 in
    let live : get_or there (n - 1) false ≡ true = sym (live-at there S n each some last) ∙ h.2 in
    entry-from_at (entries_of there S) n (Some c) (entry-at there S (n - 1) c (omega arith) at ∙ ap (λ (b : Bool). Some (cond b (Some c) None)) live)

-- which clauses are there when an entry comes, and when one goes
last-entry : (K : Entries) (e : Option Clause) (i : ℕ) (d : Clause) → slice_get (K ++ e ∷ []) i ≡ Some (Some d) → (slice_get K i ≡ Some (Some d)) ⊎ (e ≡ Some d)
last-entry [] e zero d h = inr (cc)
last-entry [] e (suc i) d h = absurd (cc)
last-entry (a ∷ K) e zero d h = inl h
last-entry (a ∷ K) e (suc i) d h = last-entry K e i d h

left-entry : (K : Entries) (i j : ℕ) (d : Clause) → slice_get (slice_set K i None) j ≡ Some (Some d) → slice_get K j ≡ Some (Some d)
left-entry [] i j d h = h
left-entry (a ∷ K) zero zero d h = absurd (cc)
left-entry (a ∷ K) zero (suc j) d h = h
left-entry (a ∷ K) (suc i) zero d h = h
left-entry (a ∷ K) (suc i) (suc j) d h = left-entry K i j d h

pub AreSets-come : (V : ℕ) (K : Entries) (c : Clause) → AreSets V K → IsSet V c → AreSets V (K ++ Some c ∷ [])
AreSets-come V K c h set n d at = elim (last-entry K (Some c) (n - 1) d (at-from_entry (K ++ Some c ∷ []) n d at)) [
  | inl before ↦ h n d (entry-from_at K n (Some d) before)
  | inr last ↦ (let is : c ≡ d = cc in subst (IsSet V) is set)
]

pub AreSets-absent : (V : ℕ) (K : Entries) → AreSets V K → AreSets V (K ++ None ∷ [])
AreSets-absent V K h n d at = elim (last-entry K None (n - 1) d (at-from_entry (K ++ None ∷ []) n d at)) [
  | inl before ↦ h n d (entry-from_at K n (Some d) before)
  | inr none ↦ absurd (cc)
]

pub AreSets-gone : (V : ℕ) (K : Entries) (i : ℕ) → AreSets V K → AreSets V (slice_set K i None)
AreSets-gone V K i h n d at = h n d (entry-from_at K n (Some d) (left-entry K i (n - 1) d (at-from_entry (slice_set K i None) n d at)))

-- the entries of one clause more
pub entries_of-more : (S : List Clause) (i : ℕ) (c : Clause) → slice_get S i ≡ Some c → map entry_of (take i S) ++ entry_of c ∷ [] ≡ map entry_of (take (i + 1) S)
entries_of-more S i c at =
    sym (ap (map entry_of) (take_more S i c (slice_get_within S i c at)) ∙ (map-append entry_of (take i S) (get_or S i c ∷ []) ∙ ap (λ (d : Clause). map entry_of (take i S) ++ entry_of d ∷ []) (get_or_from_slice_get S i c c at)))
