-- Clauses by number, unit and false clauses, and sets of literals.
use Rattle.std.proofs.Common.{◌≡◌, ℕ, zero, suc, ◌+◌, ◌-◌, ◌≤◌, Bool, true, false, not, ◌||◌, List, [], ◌∷◌, ◌++◌, length, nat_lt, refl, sym, ap, subst, ◌∙◌, inl, inr, arith, cond, Option, Some, None, option_map, slice_get, if◌then◌else◌, unwrap_or}
use Rattle.theory.specs.Literals.{Literal, Clause, negated, same, has, has_var, without}
use Rattle.theory.specs.Truth.{is_true, is_true_clause, are_true}
use Rattle.theory.specs.Status.{is_false, others_false, is_unit_in, unit_literal}
use Rattle.theory.specs.Propagation.{clause_at, least_false}
use Rattle.theory.specs.Learning.{with_literal, with_literals, resolved}
use Rattle.theory.proofs.literals.LiteralLemmas.{and-left, and-right, or-cases, or-left, or-right, not_true, same-eq, is_true-negated}
use Rattle.theory.proofs.literals.ListLemmas.{find-passes}
use Rattle.theory.proofs.literals.LiteralSets.{and-true}

pub clause_at-next : (c : Clause) (K : List Clause) (n : ℕ) → 1 ≤ n → clause_at (c ∷ K) (n + 1) ≡ clause_at K n
clause_at-next c K zero h = absurd (omega arith)
clause_at-next c K (suc n) h =
    let a : suc n + 1 - 1 ≡ suc n = omega arith in
    let b : suc n - 1 ≡ n = omega arith in
    ap (λ k. unwrap_or (slice_get (c ∷ K) k) []) a ∙ ap (λ k. unwrap_or (slice_get K k) []) (sym b)

pub clause_at-true : (m : ℕ → Bool) (K : List Clause) (n : ℕ) → are_true m K ≡ true → 1 ≤ n → n ≤ length K → is_true_clause m (clause_at K n) ≡ true
clause_at-true m [] n a h k = absurd (omega arith)
clause_at-true m (c ∷ K) zero a h k = absurd (omega arith)
clause_at-true m (c ∷ K) (suc zero) a h k = and-left (is_true_clause m c) (are_true m K) a
clause_at-true m (c ∷ K) (suc (suc n)) a h k =
    let e : suc n + 1 ≡ suc (suc n) = omega arith in
    let rest : is_true_clause m (clause_at K (suc n)) ≡ true = clause_at-true m K (suc n) (and-right (is_true_clause m c) (are_true m K) a) (omega arith) (omega arith) in
    rw (← e, clause_at-next c K (suc n) (omega arith)) rest

pub clause_at-more : (K : List Clause) (c : Clause) (n : ℕ) → 1 ≤ n → n ≤ length K → clause_at (K ++ c ∷ []) n ≡ clause_at K n
clause_at-more [] c n h k = absurd (omega arith)
clause_at-more (d ∷ K) c zero h k = absurd (omega arith)
clause_at-more (d ∷ K) c (suc zero) h k = refl
clause_at-more (d ∷ K) c (suc (suc n)) h k =
    let e : suc n + 1 ≡ suc (suc n) = omega arith in
    subst (λ i. clause_at (d ∷ K ++ c ∷ []) i ≡ clause_at (d ∷ K) i) e
    (clause_at-next d (K ++ c ∷ []) (suc n) (omega arith) ∙ clause_at-more K c (suc n) (omega arith) (omega arith) ∙ sym (clause_at-next d K (suc n) (omega arith)))

-- what the searches over all clauses find
pub record Found (K : List Clause) (n : ℕ) (P : Clause → Type 0) : Type 0 where
  pub from : 1 ≤ n
  pub to : n ≤ length K
  pub holds : P (clause_at K n)

Found-next : (c : Clause) (K : List Clause) (n : ℕ) (P : Clause → Type 0) → Found K n P → Found (c ∷ K) (n + 1) P
Found-next c K n P f = record { from = omega arith; to = (let t = f.to in omega arith); holds = subst P (sym (clause_at-next c K n f.from)) f.holds }

pub least_false-found : (P : List Literal) (K : List Clause) (n : ℕ) → least_false P K ≡ Some n → Found K n (λ c. is_false P c ≡ true)
least_false-found P [] n h = absurd (cc)
least_false-found P (c ∷ K) n h = go (is_false P c) refl h (least_false-found P K)
  where
    later : (o : Option ℕ) → least_false P K ≡ o → option_map (λ k. k + 1) o ≡ Some n → (k : ℕ) × (least_false P K ≡ Some k) × (k + 1 ≡ n)
    later None e q = absurd (cc)
    later (Some k) e q = (k, e, cc)

    go : (b : Bool) → is_false P c ≡ b → ◌≡◌ {A = Option ℕ} (elim b [ true ↦ Some 1 | false ↦ option_map (λ k. k + 1) (least_false P K) ]) (Some n)
        → ((k : ℕ) → least_false P K ≡ Some k → Found K k (λ c. is_false P c ≡ true)) → Found (c ∷ K) n (λ c. is_false P c ≡ true)
    go true e q more = let one : 1 ≡ n = cc in subst (λ i. Found (c ∷ K) i (λ d. is_false P d ≡ true)) one (record { from = omega arith; to = omega arith; holds = e })
    go false e q more =
        let l = later (least_false P K) refl q in
        subst (λ i. Found (c ∷ K) i (λ d. is_false P d ≡ true)) l.2 (Found-next c K l.0 (λ d. is_false P d ≡ true) (more l.0 l.1))

pub unit-fresh : (P : List Literal) (c : Clause) (l : Literal) → unit_literal P c ≡ Some l → has_var P l.var ≡ false
unit-fresh P c l h = not_true (has_var P l.var) (and-left (not (has_var P l.var)) (others_false P c l) (find-passes (is_unit_in P c) c l h))

pub unit-others : (P : List Literal) (c : Clause) (l : Literal) → unit_literal P c ≡ Some l → others_false P c l ≡ true
unit-others P c l h = and-right (not (has_var P l.var)) (others_false P c l) (find-passes (is_unit_in P c) c l h)

-- truth and falsity of sets
pub with_literal-true : (m : ℕ → Bool) (l : Literal) (S : Clause) → is_true_clause m (with_literal l S) ≡ is_true m l || is_true_clause m S
with_literal-true m l [] = refl
with_literal-true m l (k ∷ S) = go (with_literal-true m l S) (same l k) refl (nat_lt k.var l.var)
  where
    swap : (a b c : Bool) → a || (b || c) ≡ b || (a || c)
    swap true true c = refl
    swap true false c = refl
    swap false true c = refl
    swap false false c = refl

    twice : (a b : Bool) → a || b ≡ a || (a || b)
    twice true b = refl
    twice false b = refl

    go : is_true_clause m (with_literal l S) ≡ is_true m l || is_true_clause m S → (b : Bool) → same l k ≡ b → (d : Bool) → is_true_clause m (if b then k ∷ S else (if d then k ∷ with_literal l S else l ∷ k ∷ S)) ≡ is_true m l || (is_true m k || is_true_clause m S)
    go ih true e d = let one = ap (is_true m) (same-eq l k e) in rw one (twice (is_true m k) (is_true_clause m S))
    go ih false e true = ap (λ b. is_true m k || b) ih ∙ swap (is_true m k) (is_true m l) (is_true_clause m S)
    go ih false e false = refl

pub with_literals-left : (m : ℕ → Bool) (c S : Clause) → is_true_clause m c ≡ true → is_true_clause m (with_literals c S) ≡ true
with_literals-left m [] S h = absurd (cc)
with_literals-left m (l ∷ c) S h = with_literal-true m l (with_literals c S) ∙ elim (or-cases (is_true m l) (is_true_clause m c) h) [
  | inl here ↦ or-left (is_true m l) (is_true_clause m (with_literals c S)) here
  | inr rest ↦ or-right (is_true m l) (is_true_clause m (with_literals c S)) (with_literals-left m c S rest)
]

pub with_literals-right : (m : ℕ → Bool) (c S : Clause) → is_true_clause m S ≡ true → is_true_clause m (with_literals c S) ≡ true
with_literals-right m [] S h = h
with_literals-right m (l ∷ c) S h = with_literal-true m l (with_literals c S) ∙ or-right (is_true m l) (is_true_clause m (with_literals c S)) (with_literals-right m c S h)

-- a true clause stays true without a literal that isn't
pub without-true : (m : ℕ → Bool) (S : Clause) (l : Literal) → is_true m l ≡ false → is_true_clause m S ≡ true → is_true_clause m (without S l) ≡ true
without-true m [] l n h = h
without-true m (k ∷ S) l n h = go (same l k) refl (without-true m S l n)
  where
    go : (b : Bool) → same l k ≡ b → (is_true_clause m S ≡ true → is_true_clause m (without S l) ≡ true) → is_true_clause m (cond (not b) (k ∷ without S l) (without S l)) ≡ true
    go true e more = elim (or-cases (is_true m k) (is_true_clause m S) h) [
      | inl here ↦ absurd (let one : is_true m l ≡ is_true m k = ap (is_true m) (same-eq l k e) in cc)
      | inr rest ↦ more rest
    ]
    go false e more = elim (or-cases (is_true m k) (is_true_clause m S) h) [
      | inl here ↦ or-left (is_true m k) (is_true_clause m (without S l)) here
      | inr rest ↦ or-right (is_true m k) (is_true_clause m (without S l)) (more rest)
    ]

-- resolution keeps truth
pub resolved-true : (m : ℕ → Bool) (S : Clause) (l : Literal) (c : Clause) → is_true_clause m S ≡ true → is_true_clause m c ≡ true → is_true_clause m (resolved S l c) ≡ true
resolved-true m S l c s t = go (is_true m l) refl
  where
    go : (b : Bool) → is_true m l ≡ b → is_true_clause m (resolved S l c) ≡ true
    go true e = with_literals-right m (without c l) (without S (negated l)) (without-true m S (negated l) (is_true-negated m l ∙ ap not e) s)
    go false e = with_literals-left m (without c l) (without S (negated l)) (without-true m c l e t)

-- sets of false literals
pub with_literal-false : (P : List Literal) (l : Literal) (S : Clause) → has P (negated l) ≡ true → is_false P S ≡ true → is_false P (with_literal l S) ≡ true
with_literal-false P l [] h s = and-true (has P (negated l)) true h refl
with_literal-false P l (k ∷ S) h s =
    go (same l k) (nat_lt k.var l.var) (with_literal-false P l S h (and-right (has P (negated k)) (is_false P S) s))
  where
    go : (b d : Bool) → is_false P (with_literal l S) ≡ true → is_false P (if b then k ∷ S else (if d then k ∷ with_literal l S else l ∷ k ∷ S)) ≡ true
    go true d ih = s
    go false true ih = and-true (has P (negated k)) (is_false P (with_literal l S)) (and-left (has P (negated k)) (is_false P S) s) ih
    go false false ih = and-true (has P (negated l)) (is_false P (k ∷ S)) h s

pub with_literals-false : (P : List Literal) (c S : Clause) → is_false P c ≡ true → is_false P S ≡ true → is_false P (with_literals c S) ≡ true
with_literals-false P [] S h s = s
with_literals-false P (l ∷ c) S h s =
    with_literal-false P l (with_literals c S) (and-left (has P (negated l)) (is_false P c) h) (with_literals-false P c S (and-right (has P (negated l)) (is_false P c) h) s)

pub without-false : (P : List Literal) (S : Clause) (l : Literal) → is_false P S ≡ true → is_false P (without S l) ≡ true
without-false P [] l h = h
without-false P (k ∷ S) l h = go (same l k) (without-false P S l (and-right (has P (negated k)) (is_false P S) h))
  where
    go : (b : Bool) → is_false P (without S l) ≡ true → is_false P (cond (not b) (k ∷ without S l) (without S l)) ≡ true
    go true ih = ih
    go false ih = and-true (has P (negated k)) (is_false P (without S l)) (and-left (has P (negated k)) (is_false P S) h) ih

-- a clause's other literals are false where it is unit
pub others-false : (P : List Literal) (c : Clause) (l : Literal) → others_false P c l ≡ true → is_false P (without c l) ≡ true
others-false P [] l h = h
others-false P (k ∷ c) l h = go (same l k) (and-left (same l k || has P (negated k)) (others_false P c l) h) (others-false P c l (and-right (same l k || has P (negated k)) (others_false P c l) h))
  where
    go : (b : Bool) → b || has P (negated k) ≡ true → is_false P (without c l) ≡ true → is_false P (cond (not b) (k ∷ without c l) (without c l)) ≡ true
    go true e ih = ih
    go false e ih = and-true (has P (negated k)) (is_false P (without c l)) e ih

pub resolved-false : (P : List Literal) (S : Clause) (l : Literal) (c : Clause) → is_false P S ≡ true → others_false P c l ≡ true → is_false P (resolved S l c) ≡ true
resolved-false P S l c s o = with_literals-false P (without c l) (without S (negated l)) (others-false P c l o) (without-false P S (negated l) s)

-- more literals held true falsify no less
pub has-more : (P R : List Literal) (l : Literal) → has P l ≡ true → has (P ++ R) l ≡ true
has-more [] R l h = absurd (cc)
has-more (k ∷ P) R l h = elim (or-cases (same l k) (has P l) h) [
  | inl here ↦ or-left (same l k) (has (P ++ R) l) here
  | inr rest ↦ or-right (same l k) (has (P ++ R) l) (has-more P R l rest)
]

pub others_false-more : (P R : List Literal) (c : Clause) (l : Literal) → others_false P c l ≡ true → others_false (P ++ R) c l ≡ true
others_false-more P R [] l h = h
others_false-more P R (k ∷ c) l h =
    and-true (same l k || has (P ++ R) (negated k)) (others_false (P ++ R) c l)
    (elim (or-cases (same l k) (has P (negated k)) (and-left (same l k || has P (negated k)) (others_false P c l) h)) [
      | inl here ↦ or-left (same l k) (has (P ++ R) (negated k)) here
      | inr there ↦ or-right (same l k) (has (P ++ R) (negated k)) (has-more P R (negated k) there)
    ])
    (others_false-more P R c l (and-right (same l k || has P (negated k)) (others_false P c l) h))
