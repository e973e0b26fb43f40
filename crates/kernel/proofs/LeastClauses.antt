-- The least false clause and the least unit clause, from facts on each place.
use Rattle.std.proofs.Common.{◌≡◌, ℕ, suc, zero, ◌+◌, ◌<◌, Bool, true, false, not, ◌&&◌, ◌||◌, List, [], ◌∷◌, length, Some, None, find, refl, ap, sym, subst, ◌⊎◌, inl, inr, arith, cond}
use Rattle.std.specs.List.{list_all}
use Rattle.theory.specs.Literals.{Literal, Clause, same, has, has_var, negated}
use Rattle.theory.specs.Status.{is_false, others_false, is_unit_in, unit_literal}
use Rattle.theory.specs.Propagation.{least_false, least_unit}
use Rattle.theory.proofs.literals.LiteralLemmas.{and-left, and-right, or-cases, or-left, or-right, not_true, same-eq, same-refl}
use Rattle.theory.proofs.literals.ListLemmas.{find-passes}
use Rattle.kernel.specs.Watching.{At}
use Rattle.kernel.proofs.LiteralFacts.{true_false, all-member, free-not_negated}

-- a fact on each place of a longer list
pub At-behind : {X : Type 0} (x : X) (xs : List X) (n : ℕ) (y : X) → At xs n y → At (x ∷ xs) (suc n) y
At-behind x xs n y a = (omega (arith, a.0), a.1)

pub least_false-none : (P : List Literal) (K : List Clause) → ((n : ℕ) (c : Clause) → At K n c → is_false P c ≡ false) → least_false P K ≡ None
least_false-none P [] h = refl
least_false-none P (c ∷ K) h =
    let here : is_false P c ≡ false = h 0 c ((let z : 0 < length (c ∷ K) = omega arith in z), refl) in
    let rest : least_false P K ≡ None = least_false-none P K (λ n d a. h (suc n) d (At-behind c K n d a)) in
    rw (here, least_false) (rw rest refl)

pub least_false-some : (P : List Literal) (K : List Clause) (n : ℕ) (c : Clause) → At K n c → is_false P c ≡ true → ((m : ℕ) (d : Clause) → m < n → At K m d → is_false P d ≡ false) → least_false P K ≡ Some (n + 1)
least_false-some P [] n c a h before = absurd (omega (arith, a.0))
least_false-some P (k ∷ K) zero c a h before =
    let here : is_false P k ≡ true = subst (λ (x : Clause). is_false P x ≡ true) (sym a.1) h in
    rw (here, least_false) refl
least_false-some P (k ∷ K) (suc n) c a h before =
    let here : is_false P k ≡ false = before 0 k (let z : 0 < suc n = omega arith in z) ((let z : 0 < length (k ∷ K) = omega arith in z), refl) in
    let there : At K n c = ((let z : n < length K = omega (arith, a.0) in z), a.1) in
    let rest : least_false P K ≡ Some (n + 1) = least_false-some P K n c there h (λ m d l b. before (suc m) d (let z : suc m < suc n = omega (arith, l) in z) (At-behind k K m d b)) in
    let e : n + 1 + 1 ≡ suc n + 1 = omega arith in
    rw (here, least_false) (rw rest (ap (λ x. Some x) e))

pub least_unit-none : (P : List Literal) (K : List Clause) → ((n : ℕ) (c : Clause) → At K n c → unit_literal P c ≡ None) → least_unit P K ≡ None
least_unit-none P [] h = refl
least_unit-none P (c ∷ K) h =
    let here : unit_literal P c ≡ None = h 0 c ((let z : 0 < length (c ∷ K) = omega arith in z), refl) in
    let rest : least_unit P K ≡ None = least_unit-none P K (λ n d a. h (suc n) d (At-behind c K n d a)) in
    rw (here, least_unit) (rw rest refl)

pub least_unit-some : (P : List Literal) (K : List Clause) (n : ℕ) (c : Clause) (y : Literal) → At K n c → unit_literal P c ≡ Some y → ((m : ℕ) (d : Clause) → m < n → At K m d → unit_literal P d ≡ None) → least_unit P K ≡ Some (n + 1, y)
least_unit-some P [] n c y a h before = absurd (omega (arith, a.0))
least_unit-some P (k ∷ K) zero c y a h before =
    let here : unit_literal P k ≡ Some y = subst (λ (x : Clause). unit_literal P x ≡ Some y) (sym a.1) h in
    rw (here, least_unit) refl
least_unit-some P (k ∷ K) (suc n) c y a h before =
    let here : unit_literal P k ≡ None = before 0 k (let z : 0 < suc n = omega arith in z) ((let z : 0 < length (k ∷ K) = omega arith in z), refl) in
    let there : At K n c = ((let z : n < length K = omega (arith, a.0) in z), a.1) in
    let rest : least_unit P K ≡ Some (n + 1, y) = least_unit-some P K n c y there h (λ m d l b. before (suc m) d (let z : suc m < suc n = omega (arith, l) in z) (At-behind k K m d b)) in
    let e : n + 1 + 1 ≡ suc n + 1 = omega arith in
    rw (here, least_unit) (rw rest (ap (λ (x : ℕ). Some (x, y)) e))

-- what is found is a member
pub find-member : (p : Literal → Bool) (c : Clause) (y : Literal) → find p c ≡ Some y → has c y ≡ true
find-member p [] y h = absurd (cc)
find-member p (k ∷ c) y h = go (p k) h (find-member p c y)
  where
    go : (b : Bool) → cond b (Some k) (find p c) ≡ Some y → (find p c ≡ Some y → has c y ≡ true) → has (k ∷ c) y ≡ true
    go true e more = let one : k ≡ y = cc in or-left (same y k) (has c y) (subst (λ (x : Literal). same y x ≡ true) (sym one) (same-refl y))
    go false e more = or-right (same y k) (has c y) (more e)

-- where none is found none passes
pub find-none : (p : Literal → Bool) (c : Clause) → find p c ≡ None → list_all (λ k. not (p k)) c ≡ true
find-none p [] h = refl
find-none p (k ∷ c) h = go (p k) refl h (find-none p c)
  where
    go : (b : Bool) → p k ≡ b → cond b (Some k) (find p c) ≡ None → (find p c ≡ None → list_all (λ x. not (p x)) c ≡ true) → not (p k) && list_all (λ x. not (p x)) c ≡ true
    go true f e more = absurd (cc)
    go false f e more = rw f (more e)

-- the only one that passes is found
find-only : (p : Literal → Bool) (c : Clause) (y : Literal) → has c y ≡ true → p y ≡ true → ((k : Literal) → has c k ≡ true → p k ≡ true → k ≡ y) → find p c ≡ Some y
find-only p [] y m h one = absurd (cc)
find-only p (k ∷ c) y m h one = go (p k) refl (or-cases (same y k) (has c y) m) (λ a. find-only p c y a h (λ x b. one x (or-right (same x k) (has c x) b)))
  where
    go : (b : Bool) → p k ≡ b → (same y k ≡ true) ⊎ (has c y ≡ true) → (has c y ≡ true → find p c ≡ Some y) → cond (p k) (Some k) (find p c) ≡ Some y
    go true f a more = let e : k ≡ y = one k (or-left (same k k) (has c k) (same-refl k)) f in rw (f, e) refl
    go false f (inl a) more = absurd (true_false (p k) (subst (λ (x : Literal). p x ≡ true) (same-eq y k a) h) f)
    go false f (inr a) more = rw f (more a)

pub unit_literal-is : (P : List Literal) (c : Clause) (y : Literal) → has c y ≡ true → has_var P y.var ≡ false → others_false P c y ≡ true → unit_literal P c ≡ Some y
unit_literal-is P c y m free all = find-only (is_unit_in P c) c y m passes one
  where
    passes : is_unit_in P c y ≡ true
    passes = rw free all

    one : (k : Literal) → has c k ≡ true → is_unit_in P c k ≡ true → k ≡ y
    one k h u = go (or-cases (same k y) (has P (negated y)) (all-member (λ x. same k x || has P (negated x)) c y (and-right (not (has_var P k.var)) (others_false P c k) u) m))
      where
        go : (same k y ≡ true) ⊎ (has P (negated y) ≡ true) → k ≡ y
        go (inl e) = same-eq k y e
        go (inr e) = absurd (free-not_negated P y free e)

-- what it says that a clause is unit
pub record IsUnitIn (P : List Literal) (c : Clause) (y : Literal) : Type 0 where
  pub member : has c y ≡ true
  pub free : has_var P y.var ≡ false
  pub others : others_false P c y ≡ true

pub unit_literal-says : (P : List Literal) (c : Clause) (y : Literal) → unit_literal P c ≡ Some y → IsUnitIn P c y
unit_literal-says P c y h =
    let u : is_unit_in P c y ≡ true = find-passes (is_unit_in P c) c y h in
    record {
      member = find-member (is_unit_in P c) c y h;
      free = not_true (has_var P y.var) (and-left (not (has_var P y.var)) (others_false P c y) u);
      others = and-right (not (has_var P y.var)) (others_false P c y) u;
    }
