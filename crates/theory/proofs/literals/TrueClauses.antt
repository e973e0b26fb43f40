-- Truth of clauses under literals that are true, and once one more is made true. In the lemmas m
-- gives the variables' truth values.
use Rattle.std.proofs.Common.{◌≡◌, ℕ, Bool, true, false, not, ◌&&◌, ◌||◌, List, [], ◌∷◌, ◌++◌, refl, ap, sym, ◌∙◌, Some, nat_eq, eqb-true, eq-eqb, inl, inr, cond}
use Rattle.std.specs.List.{list_any, list_all}
use Rattle.theory.specs.Literals.{Literal, Clause, negated, negations, same, same_sign, has, without}
use Rattle.theory.specs.Truth.{AreTrue, is_true, is_true_clause}
use Rattle.theory.specs.Status.{is_false, is_unit_in, unit_literal}
use Rattle.theory.proofs.literals.LiteralLemmas.{and-left, and-right, or-cases, or-left, or-right, not_true, same-eq, same-refl, same_sign-refl, is_true-negated}
use Rattle.theory.proofs.literals.ListLemmas.{find-passes}

pub AreTrue-has : (m : ℕ → Bool) (P : List Literal) (l : Literal) → AreTrue m P → has P l ≡ true → is_true m l ≡ true
AreTrue-has m [] l h e = absurd (cc)
AreTrue-has m (k ∷ P) l h e = elim (or-cases (same l k) (has P l) e) [
  | inl s ↦ ap (is_true m) (same-eq l k s) ∙ h.0
  | inr r ↦ AreTrue-has m P l h.1 r
]

pub AreTrue-append : (m : ℕ → Bool) (P R : List Literal) → AreTrue m P → AreTrue m R → AreTrue m (P ++ R)
AreTrue-append m [] R h k = k
AreTrue-append m (l ∷ P) R h k = (h.0, AreTrue-append m P R h.1 k)

-- a false clause isn't true
pub is_false-false : (m : ℕ → Bool) (P : List Literal) (c : Clause) → AreTrue m P → is_false P c ≡ true → is_true_clause m c ≡ false
is_false-false m P [] h e = refl
is_false-false m P (l ∷ c) h e =
    let here : is_true m (negated l) ≡ true = AreTrue-has m P (negated l) h (and-left (has P (negated l)) (is_false P c) e) in
    let this : is_true m l ≡ false = not_true (is_true m l) (sym (is_true-negated m l) ∙ here) in
    let rest : is_true_clause m c ≡ false = is_false-false m P c h (and-right (has P (negated l)) (is_false P c) e) in
    rw this rest

-- a true clause whose literals are all l or false has l true
pub others_false-true : (m : ℕ → Bool) (P : List Literal) (l : Literal) (c : Clause) → AreTrue m P
    → list_all (λ k. same l k || has P (negated k)) c ≡ true → is_true_clause m c ≡ true → is_true m l ≡ true
others_false-true m P l [] h e t = absurd (cc)
others_false-true m P l (k ∷ c) h e t = elim (or-cases (is_true m k) (is_true_clause m c) t) [
  | inl it ↦ elim (or-cases (same l k) (has P (negated k)) (and-left (same l k || has P (negated k)) (list_all (λ k. same l k || has P (negated k)) c) e)) [
    | inl s ↦ ap (is_true m) (same-eq l k s) ∙ it
    | inr n ↦ absurd (let no = sym (is_true-negated m k) ∙ AreTrue-has m P (negated k) h n in let neg : not (is_true m k) ≡ false = ap not it in cc)
  ]
  | inr rest ↦ others_false-true m P l c h (and-right (same l k || has P (negated k)) (list_all (λ k. same l k || has P (negated k)) c) e) rest
]

-- the literal of a true unit clause is true
pub unit-true : (m : ℕ → Bool) (P : List Literal) (c : Clause) (l : Literal) → AreTrue m P → unit_literal P c ≡ Some l → is_true_clause m c ≡ true → is_true m l ≡ true
unit-true m P c l h u t =
    let unit : is_unit_in P c l ≡ true = find-passes (is_unit_in P c) c l u in
    others_false-true m P l c h (and-right _ (list_all (λ k. same l k || has P (negated k)) c) unit) t

-- the negations of a clause that isn't true are true
negations-on : (m : ℕ → Bool) (l : Literal) (c : Clause) (b : Bool) → is_true m l ≡ b → (is_true_clause m c ≡ false → AreTrue m (negations c))
    → b || is_true_clause m c ≡ false → AreTrue m (negations (l ∷ c))
negations-on m l c true e more k = absurd (cc)
negations-on m l c false e more k = (is_true-negated m l ∙ ap not e, more k)

pub negations-AreTrue : (m : ℕ → Bool) (c : Clause) → is_true_clause m c ≡ false → AreTrue m (negations c)
negations-AreTrue m [] h = tt
negations-AreTrue m (l ∷ c) h = negations-on m l c (is_true m l) refl (negations-AreTrue m c) h

-- a clause without the literal q is as it was
without-absent : (d : Clause) (q : Literal) → has d q ≡ false → without d q ≡ d
without-absent [] q h = refl
without-absent (k ∷ d) q h = go (same q k) refl h (without-absent d q)
  where
    go : (b : Bool) → same q k ≡ b → b || has d q ≡ false → (has d q ≡ false → without d q ≡ d) → cond (not b) (k ∷ without d q) (without d q) ≡ k ∷ d
    go true e t more = absurd (cc)
    go false e t more = ap (λ x. k ∷ x) (more t)

-- a clause with a literal of those that are true is true
pub has-true : (m : ℕ → Bool) (d : Clause) (l : Literal) → has d l ≡ true → is_true m l ≡ true → is_true_clause m d ≡ true
has-true m [] l h t = h
has-true m (k ∷ d) l h t = elim (or-cases (same l k) (has d l) h) [
  | inl s ↦ or-left (is_true m k) (is_true_clause m d) (ap (is_true m) (sym (same-eq l k s)) ∙ t)
  | inr r ↦ or-right (is_true m k) (is_true_clause m d) (has-true m d l r t)
]

-- a clause with both signs of a variable is always true
pub some_sign : (m : ℕ → Bool) (d c : Clause) → ((l : Literal) → has c l ≡ true → has d l ≡ true) → list_any (λ l. has d (negated l)) c ≡ true → is_true_clause m d ≡ true
some_sign m d [] within h = absurd (cc)
some_sign m d (l ∷ c) within h = elim (or-cases (has d (negated l)) (list_any (λ l. has d (negated l)) c) h) [
  | inl here ↦ go (is_true m l) refl here
  | inr rest ↦ some_sign m d c (λ k e. within k (or-right (same k l) (has c k) e)) rest
]
  where
    go : (b : Bool) → is_true m l ≡ b → has d (negated l) ≡ true → is_true_clause m d ≡ true
    go true e here = has-true m d l (within l (or-left (same l l) (has c l) (same-refl l))) e
    go false e here = has-true m d (negated l) here (is_true-negated m l ∙ ap not e)

-- a literal held true that the clause has, other than the negated pivot, makes it true without that
pub held-true : (m : ℕ → Bool) (P : List Literal) (c : Clause) → AreTrue m P → list_any (has P) c ≡ true → is_true_clause m c ≡ true
held-true m P [] h e = e
held-true m P (l ∷ c) h e = elim (or-cases (has P l) (list_any (has P) c) e) [
  | inl here ↦ or-left (is_true m l) (is_true_clause m c) (AreTrue-has m P l h here)
  | inr rest ↦ or-right (is_true m l) (is_true_clause m c) (held-true m P c h rest)
]

-- m with the literal p made true
unfoldable pub flipped : (ℕ → Bool) → Literal → ℕ → Bool
flipped m p v = cond (nat_eq v p.var) p.positive (m v)

pub flipped-pivot : (m : ℕ → Bool) (p : Literal) → is_true (flipped m p) p ≡ true
unfolding flipped
flipped-pivot m p = let v : nat_eq p.var p.var ≡ true = eq-eqb p.var p.var refl in rw v (same_sign-refl p.positive)

-- every other literal but its negation keeps its truth
flipped-other : (m : ℕ → Bool) (p k : Literal) → same (negated p) k ≡ false → is_true m k ≡ true → is_true (flipped m p) k ≡ true
unfolding flipped
flipped-other m p k h t = go (nat_eq k.var p.var) refl
  where
    sign : (a b : Bool) → same_sign (not a) b ≡ false → same_sign b a ≡ true
    sign true true e = refl
    sign true false e = sym e
    sign false true e = sym e
    sign false false e = refl

    go : (b : Bool) → nat_eq k.var p.var ≡ b → same_sign k.positive (cond b p.positive (m k.var)) ≡ true
    go true e = sign p.positive k.positive (let v : p.var ≡ k.var = sym (eqb-true k.var p.var e) in let n : nat_eq p.var k.var ≡ true = eq-eqb p.var k.var v in let all : nat_eq p.var k.var && same_sign (not p.positive) k.positive ≡ false = h in rw n at all)
    go false e = t

-- a clause that is true without the negated pivot stays true
pub without-flipped : (m : ℕ → Bool) (p : Literal) (d : Clause) → is_true_clause m (without d (negated p)) ≡ true → is_true_clause (flipped m p) d ≡ true
without-flipped m p [] h = h
without-flipped m p (k ∷ d) h = go (same (negated p) k) refl h (without-flipped m p d)
  where
    go : (b : Bool) → same (negated p) k ≡ b → is_true_clause m (cond (not b) (k ∷ without d (negated p)) (without d (negated p))) ≡ true
        → (is_true_clause m (without d (negated p)) ≡ true → is_true_clause (flipped m p) d ≡ true) → is_true_clause (flipped m p) (k ∷ d) ≡ true
    go true e t more = or-right (is_true (flipped m p) k) (is_true_clause (flipped m p) d) (more t)
    go false e t more = elim (or-cases (is_true m k) (is_true_clause m (without d (negated p))) t) [
      | inl it ↦ or-left (is_true (flipped m p) k) (is_true_clause (flipped m p) d) (flipped-other m p k e it)
      | inr rest ↦ or-right (is_true (flipped m p) k) (is_true_clause (flipped m p) d) (more rest)
    ]

-- what is true and hasn't the negated pivot stays true
pub absent-flipped : (m : ℕ → Bool) (p : Literal) (d : Clause) → has d (negated p) ≡ false → is_true_clause m d ≡ true → is_true_clause (flipped m p) d ≡ true
absent-flipped m p d h t = without-flipped m p d (ap (is_true_clause m) (without-absent d (negated p) h) ∙ t)
