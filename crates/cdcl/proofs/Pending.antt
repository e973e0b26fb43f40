-- The places of the trail where a set may yet be resolved: one comes, one is looked at, the others
-- stay.
use Rattle.std.proofs.Common.{◌≡◌, ◌≢◌, ℕ, suc, max, ◌+◌, ◌<◌, ◌≤◌, Bool, true, false, ◌&&◌, ◌||◌, List, [], ◌∷◌, Option, Some, None, slice_get, refl, ap, sym, subst, ◌∙◌, nat_lt, nat_eq, eqb-true, eq-eqb, ltb-true, ltb-false, inl, inr, arith, cond, count_by, All, IsPermutation}
use Rattle.std.proofs.lemmas.List.Sums.{sum_by-cons}
use Rattle.std.proofs.lemmas.List.Sorted.{All-permutation, sum_by_pushed, sum_by_popped}
use Rattle.std.proofs.lemmas.List.Elements.{All-tail}
use Rattle.std.proofs.Math.Nat.{le-max_left, le-max_right, max-le}
use Rattle.theory.specs.Literals.{Literal, Clause, negated, has_var, without}
use Rattle.theory.specs.Trails.{Trail, Entry}
use Rattle.theory.specs.Lawful.{IsLawful}
use Rattle.theory.specs.Learning.{with_literal}
use Rattle.theory.proofs.literals.LiteralLemmas.{true_or_false, and-left, and-right}
use Rattle.theory.proofs.literals.LiteralSets.{true_false, false_unless}
use Rattle.cdcl.specs.Marks.{ArePending, is_open, is_resolvable}
use Rattle.cdcl.proofs.PlaceLemmas.{places-distinct}
use Rattle.cdcl.proofs.SetLemmas.{has_var-with_literal, has_var-without}

-- how often a place waits
abbrev pub times : ℕ → List ℕ → ℕ
times q places = count_by (λ p. nat_eq p q) places

pub times-pushed : (q x : ℕ) (xs ys : List ℕ) → IsPermutation (x ∷ xs) ys → times q ys ≡ cond (nat_eq x q) 1 0 + times q xs
times-pushed q x xs ys h = sum_by_pushed (λ p. cond (nat_eq p q) 1 0) x xs ys h

-- the place is put in where the entry is resolvable
pub pending-pushed : (b : Bool) (place : ℕ) (old new : List ℕ) → b ≡ true → IsPermutation (place ∷ old) new → (q : ℕ) → times q new ≡ cond (b && nat_eq place q) 1 0 + times q old
pending-pushed b place old new e h q = rw e (times-pushed q place old new h)

pub pending-kept : (b : Bool) (place : ℕ) (old : List ℕ) → b ≡ false → (q : ℕ) → times q old ≡ cond (b && nat_eq place q) 1 0 + times q old
pending-kept b place old e q = rw e (omega arith)

pub times-popped : (q x : ℕ) (xs ys : List ℕ) → IsPermutation xs (x ∷ ys) → times q ys + cond (nat_eq x q) 1 0 ≡ times q xs
times-popped q x xs ys h = sum_by_popped (λ p. cond (nat_eq p q) 1 0) x xs ys h

times-above : (q x : ℕ) (xs : List ℕ) → All (λ y. y ≤ x) xs → x < q → times q xs ≡ 0
times-above q x [] h less = refl
times-above q x (y ∷ xs) h less =
    let most : y ≤ x = h 0 y (omega arith) in
    let other : nat_eq y q ≡ false = false_unless (nat_eq y q) (λ e. (let one = eqb-true y q e in absurd (omega (arith, most, less, one)))) in
    let here : ◌≡◌ {A = ℕ} (cond (nat_eq y q) 1 0) 0 = ap (λ b. cond b 1 0) other in
    let rest = times-above q x xs (All-tail (λ z. z ≤ x) y xs h) less in
    let sum = sum_by-cons (λ p. cond (nat_eq p q) 1 0) y xs in
    omega arith

pub lt-true : (a b : ℕ) → a < b → nat_lt a b ≡ true
lt-true a b h = elim (true_or_false (nat_lt a b)) [ inl e ↦ e | inr e ↦ (let most = ltb-false a b e in absurd (omega arith)) ]

pub lt-false : (a b : ℕ) → b ≤ a → nat_lt a b ≡ false
lt-false a b h = elim (true_or_false (nat_lt a b)) [ inl e ↦ (let less = ltb-true a b e in absurd (omega arith)) | inr e ↦ e ]

one-is : (b : Bool) → 1 ≤ cond b 1 0 → b ≡ true
one-is true h = refl
one-is false h = absurd (omega (arith, h))

none-is : (b : Bool) → ◌≡◌ {A = ℕ} (cond b 1 0) 0 → b ≡ false
none-is true h = absurd (omega (arith, h))
none-is false h = refl

-- whether a set is open at the other places stays
open-with : (T : Trail) (R : List Literal) (S : Clause) (e : Entry) (o : Option Entry) → ((d : Entry) → o ≡ Some d → nat_eq d.lit.var e.lit.var ≡ false) → is_open T R (with_literal (negated e.lit) S) o ≡ is_open T R S o
open-with T R S e None h = refl
open-with T R S e (Some d) h =
    ap (λ b. b && is_resolvable T R d) (has_var-with_literal (negated e.lit) S d.lit.var ∙ ap (λ b. b || has_var S d.lit.var) (h d refl))

open-without : (T : Trail) (R : List Literal) (S : Clause) (e : Entry) (o : Option Entry) → ((d : Entry) → o ≡ Some d → nat_eq d.lit.var e.lit.var ≡ false) → is_open T R (without S (negated e.lit)) o ≡ is_open T R S o
open-without T R S e None h = refl
open-without T R S e (Some d) h = ap (λ b. b && is_resolvable T R d) (has_var-without (negated e.lit) S d.lit.var (h d refl))

other-var : (K : List Clause) (T : Trail) (p q : ℕ) (e : Entry) → IsLawful K T → slice_get T p ≡ Some e → p ≢ q → (d : Entry) → slice_get T q ≡ Some d → nat_eq d.lit.var e.lit.var ≡ false
other-var K T p q e lawful h other d k =
    false_unless (nat_eq d.lit.var e.lit.var) (λ v. other (places-distinct K T p q e d lawful h k (sym (eqb-true d.lit.var e.lit.var v))))

-- the literal at a place is put in
pub pending-more : (K : List Clause) (T : Trail) (R : List Literal) (S : Clause) (bound place : ℕ) (e : Entry) (old new : List ℕ) → IsLawful K T → slice_get T place ≡ Some e → place < bound
    → has_var S e.lit.var ≡ false → ArePending T R S bound old → ((q : ℕ) → times q new ≡ cond (is_resolvable T R e && nat_eq place q) 1 0 + times q old)
    → ArePending T R (with_literal (negated e.lit) S) bound new
pending-more K T R S bound place e old new lawful at below is_new h sum q = go (nat_eq place q) refl
  where
    there : has_var (with_literal (negated e.lit) S) e.lit.var ≡ true
    there = has_var-with_literal (negated e.lit) S e.lit.var ∙ ap (λ b. b || has_var S e.lit.var) (eq-eqb e.lit.var e.lit.var refl)

    and-one : (b : Bool) → b && true ≡ b
    and-one true = refl
    and-one false = refl

    and-none : (b : Bool) → b && false ≡ false
    and-none true = refl
    and-none false = refl

    here : times place new ≡ cond (nat_lt place bound && is_open T R (with_literal (negated e.lit) S) (slice_get T place)) 1 0
    here =
        let was : times place old ≡ 0 = h place ∙ rw (lt-true place bound below, at, is_new) refl in
        sum place ∙ rw (was, lt-true place bound below, at, there, eq-eqb place place refl, and-one (is_resolvable T R e)) (omega arith)

    go : (b : Bool) → nat_eq place q ≡ b → times q new ≡ cond (nat_lt q bound && is_open T R (with_literal (negated e.lit) S) (slice_get T q)) 1 0
    go true i = subst (λ p. times p new ≡ cond (nat_lt p bound && is_open T R (with_literal (negated e.lit) S) (slice_get T p)) 1 0) (eqb-true place q i) here
    go false i =
        let other : place ≢ q = λ same. true_false (nat_eq place q) (eq-eqb place q same) i in
        let same_open = open-with T R S e (slice_get T q) (other-var K T place q e lawful at other) in
        let none : ◌≡◌ {A = ℕ} (cond (is_resolvable T R e && nat_eq place q) 1 0) 0 = rw (i, and-none (is_resolvable T R e)) refl in
        let total = sum q in
        let stays : times q new ≡ times q old = omega arith in
        stays ∙ (h q ∙ ap (λ b. cond (nat_lt q bound && b) 1 0) (sym same_open))

-- the place looked at is taken out
pub pending-less : (K : List Clause) (T : Trail) (R : List Literal) (S : Clause) (bound : ℕ) (e : Entry) (places : List ℕ) → IsLawful K T → slice_get T bound ≡ Some e → ArePending T R S bound places
    → ArePending T R (without S (negated e.lit)) bound places
pending-less K T R S bound e places lawful at h q = h q ∙ go (nat_lt q bound) refl
  where
    go : (b : Bool) → nat_lt q bound ≡ b → ◌≡◌ {A = ℕ} (cond (b && is_open T R S (slice_get T q)) 1 0) (cond (b && is_open T R (without S (negated e.lit)) (slice_get T q)) 1 0)
    go true i =
        let less = ltb-true q bound i in
        let other : bound ≢ q = λ same. (absurd (omega (arith, less, same))) in
        ap (λ b. cond b 1 0) (sym (open-without T R S e (slice_get T q) (other-var K T bound q e lawful at other)))
    go false i = refl

-- the greatest place comes
pub record IsTop (T : Trail) (R : List Literal) (S : Clause) (bound place : ℕ) (new : List ℕ) : Type 0 where
  pub below : place < bound
  pub is_open_there : is_open T R S (slice_get T place) ≡ true
  pub between : (q : ℕ) → place < q → q < bound → is_open T R S (slice_get T q) ≡ false
  pub pending : ArePending T R S place new

pub pending-top : (T : Trail) (R : List Literal) (S : Clause) (bound place : ℕ) (old new : List ℕ) → ArePending T R S bound old → IsPermutation old (place ∷ new) → All (λ q. q ≤ place) new
    → IsTop T R S bound place new
pending-top T R S bound place old new h moved greatest = record {
  below = ltb-true place bound (and-left (nat_lt place bound) _ top);
  is_open_there = and-right (nat_lt place bound) _ top;
  between = λ q above less.
      none-is (is_open T R S (slice_get T q)) (let was = h q in let now = beyond q above in let sum = popped q above in sym (ap (λ b. cond (b && is_open T R S (slice_get T q)) 1 0) (lt-true q bound less)) ∙ (sym was ∙ (sym sum ∙ now)));
  pending = λ q. go q (nat_lt q place) refl;
}
  where
    beyond : (q : ℕ) → place < q → times q new ≡ 0
    beyond q above = times-above q place new greatest above

    popped : (q : ℕ) → place < q → times q new ≡ times q old
    popped q above =
        let other : nat_eq place q ≡ false = false_unless (nat_eq place q) (λ e. (let one = eqb-true place q e in absurd (omega (arith, above, one)))) in
        let zero_here : ◌≡◌ {A = ℕ} (cond (nat_eq place q) 1 0) 0 = ap (λ b. cond b 1 0) other in
        let sum = times-popped q place old new moved in
        omega arith

    one_here : ◌≡◌ {A = ℕ} (cond (nat_eq place place) 1 0) 1
    one_here = ap (λ b. cond b 1 0) (eq-eqb place place refl)

    top : nat_lt place bound && is_open T R S (slice_get T place) ≡ true
    top = one-is (nat_lt place bound && is_open T R S (slice_get T place)) (let was = h place in let sum = times-popped place place old new moved in let one = one_here in omega arith)

    rest : times place new ≡ 0
    rest =
        let was = h place in
        let sum = times-popped place place old new moved in
        let one = one_here in
        let full : ◌≡◌ {A = ℕ} (cond (nat_lt place bound && is_open T R S (slice_get T place)) 1 0) 1 = ap (λ b. cond b 1 0) top in
        omega arith

    go : (q : ℕ) (b : Bool) → nat_lt q place ≡ b → times q new ≡ cond (b && is_open T R S (slice_get T q)) 1 0
    go q true i =
        let less = ltb-true q place i in
        let low = ltb-true place bound (and-left (nat_lt place bound) _ top) in
        let other : nat_eq place q ≡ false = false_unless (nat_eq place q) (λ e. (let one = eqb-true place q e in absurd (omega (arith, less, one)))) in
        let zero_here : ◌≡◌ {A = ℕ} (cond (nat_eq place q) 1 0) 0 = ap (λ b. cond b 1 0) other in
        let sum = times-popped q place old new moved in
        let same_times : times q new ≡ times q old = omega arith in
        same_times ∙ (h q ∙ ap (λ b. cond (b && is_open T R S (slice_get T q)) 1 0) (lt-true q bound (omega arith)))
    go q false i = elim (true_or_false (nat_eq place q)) [
      | inl e ↦ subst (λ p. times p new ≡ 0) (eqb-true place q e) rest
      | inr e ↦ (let most = ltb-false q place i in let other : place ≢ q = λ same. true_false (nat_eq place q) (eq-eqb place q same) e in beyond q (omega (arith, most, other)))
    ]

-- none waits
pub pending-none : (T : Trail) (R : List Literal) (S : Clause) (bound q : ℕ) → ArePending T R S bound [] → q < bound → is_open T R S (slice_get T q) ≡ false
pending-none T R S bound q h less = none-is (is_open T R S (slice_get T q)) (sym (h q ∙ ap (λ b. cond (b && is_open T R S (slice_get T q)) 1 0) (lt-true q bound less)))

pub pending-done : (T : Trail) (R : List Literal) (S : Clause) → ArePending T R S 0 []
pending-done T R S q = rw (lt-false q 0 (omega arith)) refl

-- nothing waits for the empty set
pub pending-empty : (T : Trail) (R : List Literal) (bound : ℕ) → ArePending T R [] bound []
pending-empty T R bound q = go (nat_lt q bound) (slice_get T q)
  where
    go : (b : Bool) (o : Option Entry) → ◌≡◌ {A = ℕ} 0 (cond (b && is_open T R [] o) 1 0)
    go true None = refl
    go true (Some e) = refl
    go false o = refl

-- the number behind the greatest of the places, or 0
abbrev pub top_of : List ℕ → ℕ
top_of [] = 0
top_of (x ∷ xs) = max (suc x) (top_of xs)

pub top-most : (places : List ℕ) (bound : ℕ) → ((q : ℕ) → bound ≤ q → times q places ≡ 0) → top_of places ≤ bound
top-most [] bound h = omega arith
top-most (x ∷ xs) bound h =
    let rest = top-most xs bound (λ q most. (let sum = sum_by-cons (λ p. cond (nat_eq p q) 1 0) x xs in let none = h q most in omega arith)) in
    let first : suc x ≤ bound = elim (true_or_false (nat_lt x bound)) [
      | inl e ↦ ltb-true x bound e
      | inr e ↦ (let most = ltb-false x bound e in let sum = sum_by-cons (λ p. cond (nat_eq p x) 1 0) x xs in let none = h x most in
          let one : ◌≡◌ {A = ℕ} (cond (nat_eq x x) 1 0) 1 = ap (λ b. cond b 1 0) (eq-eqb x x refl) in absurd (omega arith))
    ] in
    max-le first rest

pub top-below : (T : Trail) (R : List Literal) (S : Clause) (bound : ℕ) (places : List ℕ) → ArePending T R S bound places → top_of places ≤ bound
top-below T R S bound places h = top-most places bound (λ q most. h q ∙ ap (λ b. cond (b && is_open T R S (slice_get T q)) 1 0) (lt-false q bound most))

-- a place that waits is before it
pub top-there : (place : ℕ) (places : List ℕ) → 1 ≤ times place places → place < top_of places
top-there place [] h = absurd (omega (arith, h))
top-there place (x ∷ xs) h = elim (true_or_false (nat_eq x place)) [
  | inl e ↦ (let same = eqb-true x place e in let most = le-max_left (suc x) (top_of xs) in omega arith)
  | inr e ↦ (let sum = sum_by-cons (λ p. cond (nat_eq p place) 1 0) x xs in
      let none : ◌≡◌ {A = ℕ} (cond (nat_eq x place) 1 0) 0 = ap (λ b. cond b 1 0) e in
      let rest = top-there place xs (omega arith) in let most = le-max_right (suc x) (top_of xs) in omega arith)
]

pub top-popped : (place : ℕ) (old new : List ℕ) → IsPermutation old (place ∷ new) → place < top_of old
top-popped place old new moved =
    let sum = times-popped place place old new moved in
    let one : ◌≡◌ {A = ℕ} (cond (nat_eq place place) 1 0) 1 = ap (λ b. cond b 1 0) (eq-eqb place place refl) in
    top-there place old (omega arith)

-- the places behind the greatest are at most it
pub rest-below : (place : ℕ) (old new : List ℕ) → IsPermutation old (place ∷ new) → All (λ q. q ≤ place) old → All (λ q. q ≤ place) new
rest-below place old new moved all = All-tail (λ q. q ≤ place) place new (All-permutation (λ q. q ≤ place) old (place ∷ new) moved all)
