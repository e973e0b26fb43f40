-- What a clause is under literals held true, by a walk over it that keeps the one free literal met
-- so far.
use Rattle.std.proofs.Common.{◌≡◌, ℕ, zero, suc, ◌+◌, ◌<◌, ◌≤◌, Bool, true, false, not, ◌||◌, List, [], ◌∷◌, ◌++◌, length, take, drop, get_or, Option, Some, None, find, cond, refl, ap, sym, subst, ◌∙◌, inl, inr, ◌⊎◌, arith}
use Rattle.std.specs.List.{list_all}
use Rattle.std.proofs.Math.Bool.{beq}
use Rattle.std.proofs.lemmas.List.{take_all, take_more, take-append-drop}
use Rattle.std.proofs.lemmas.List.Folds.{list_all-append}
use Rattle.theory.specs.Literals.{Literal, Clause, negated, same, has, has_var, are_distinct}
use Rattle.theory.specs.Status.{is_false, others_false, is_unit_in, unit_literal}
use Rattle.theory.proofs.literals.LiteralLemmas.{and-left, and-right, or-cases, or-left, or-right, not_true, same-eq, same-refl}
use Rattle.theory.proofs.literals.LiteralSets.{true_false, false_unless, and-true, not-false, has-head, has-equal, has-tail, has-cases, has-append_left, has-append_right, has_var-has, other-same, negated-other, list_all-has}

-- the literals met are false but for the free one
abbrev pub IsMet : List Literal → Clause → Option Literal → Type 0
IsMet P c None = is_false P c ≡ true
IsMet P c (Some u) = (has c u ≡ true) × (has_var P u.var ≡ false) × (others_false P c u ≡ true)

pub beq-same : (a b : Bool) → beq a b ≡ true → a ≡ b
beq-same true true h = refl
beq-same false false h = refl
beq-same true false h = absurd (cc)
beq-same false true h = absurd (cc)

pub beq-other : (a b : Bool) → beq a b ≡ false → a ≡ b → ⊥
beq-other true true h e = cc
beq-other false false h e = cc
beq-other true false h e = cc
beq-other false true h e = cc

list_all-more : (p q : Literal → Bool) (c : Clause) → ((l : Literal) → p l ≡ true → q l ≡ true) → list_all p c ≡ true → list_all q c ≡ true
list_all-more p q [] f h = refl
list_all-more p q (k ∷ c) f h = and-true (q k) (list_all q c) (f k (and-left (p k) (list_all p c) h)) (list_all-more p q c f (and-right (p k) (list_all p c) h))

list_all-push : (p : Literal → Bool) (c : Clause) (l : Literal) → list_all p c ≡ true → p l ≡ true → list_all p (c ++ l ∷ []) ≡ true
list_all-push p c l h k = list_all-append p c (l ∷ []) ∙ and-true (list_all p c) (list_all p (l ∷ [])) h (and-true (p l) true k refl)

-- one literal more
pub IsMet-false : (P : List Literal) (c : Clause) (o : Option Literal) (l : Literal) → IsMet P c o → has P (negated l) ≡ true → IsMet P (c ++ l ∷ []) o
IsMet-false P c None l h t = list_all-push (λ k. has P (negated k)) c l h t
IsMet-false P c (Some u) l h t =
    (has-append_left c (l ∷ []) u h.0, h.1, list_all-push (λ k. same u k || has P (negated k)) c l h.2 (or-right (same u l) (has P (negated l)) t))

pub IsMet-free : (P : List Literal) (c : Clause) (l : Literal) → IsMet P c None → has_var P l.var ≡ false → IsMet P (c ++ l ∷ []) (Some l)
IsMet-free P c l h t = (
  has-append_right c (l ∷ []) l (has-head l []),
  t,
  list_all-push (λ k. same l k || has P (negated k)) c l
      (list_all-more (λ k. has P (negated k)) (λ k. same l k || has P (negated k)) c (λ k n. or-right (same l k) (has P (negated k)) n) h)
      (or-left (same l l) (has P (negated l)) (same-refl l)),
)

pub IsMet-same : (P : List Literal) (c : Clause) (u l : Literal) → IsMet P c (Some u) → same l u ≡ true → IsMet P (c ++ l ∷ []) (Some u)
IsMet-same P c u l h t =
    let one : same u l ≡ true = subst (λ k. same u k ≡ true) (sym (same-eq l u t)) (same-refl u) in
    (has-append_left c (l ∷ []) u h.0, h.1, list_all-push (λ k. same u k || has P (negated k)) c l h.2 (or-left (same u l) (has P (negated l)) one))

-- what a walk finds
find-none : (p : Literal → Bool) (c : Clause) → ((l : Literal) → has c l ≡ true → p l ≡ true → ⊥) → find p c ≡ None
find-none p [] h = refl
find-none p (k ∷ c) h = go (p k) refl (find-none p c (λ l a. h l (has-tail k l c a)))
  where
    go : (b : Bool) → p k ≡ b → find p c ≡ None → cond b (Some k) (find p c) ≡ None
    go true e more = absurd (h k (has-head k c) e)
    go false e more = more

find-only : (p : Literal → Bool) (c : Clause) (u : Literal) → has c u ≡ true → p u ≡ true → ((l : Literal) → p l ≡ true → l ≡ u) → find p c ≡ Some u
find-only p [] u a t h = absurd (cc)
find-only p (k ∷ c) u a t h = go (p k) refl (λ r. find-only p c u r t h)
  where
    go : (b : Bool) → p k ≡ b → (has c u ≡ true → find p c ≡ Some u) → cond b (Some k) (find p c) ≡ Some u
    go true e more = ap Some (h k e)
    go false e more = elim (has-cases k u c a) [ inl same ↦ true_false (p k) (ap p (sym same) ∙ t) e | inr r ↦ more r ]

find-has : (p : Literal → Bool) (c : Clause) (l : Literal) → find p c ≡ Some l → has c l ≡ true
find-has p [] l h = absurd (cc)
find-has p (k ∷ c) l h = go (p k) h (find-has p c l)
  where
    go : (b : Bool) → cond b (Some k) (find p c) ≡ Some l → (find p c ≡ Some l → has c l ≡ true) → has (k ∷ c) l ≡ true
    go true e more = has-equal k l c (let same : k ≡ l = cc in sym same)
    go false e more = has-tail k l c (more e)

pub unit-has : (P : List Literal) (c : Clause) (l : Literal) → unit_literal P c ≡ Some l → has c l ≡ true
unit-has P c l h = find-has (is_unit_in P c) c l h

-- a literal that isn't false makes the clause not false
pub is_false-not : (P : List Literal) (c : Clause) (l : Literal) → has c l ≡ true → has P (negated l) ≡ false → is_false P c ≡ false
is_false-not P c l a n = false_unless (is_false P c) (λ t. true_false (has P (negated l)) (list_all-has (λ k. has P (negated k)) c l t a) n)

not_negated : (P : List Literal) (l : Literal) → has_var P l.var ≡ false → has P (negated l) ≡ false
not_negated P l free = false_unless (has P (negated l)) (λ t. true_false (has_var P l.var) (has_var-has P (negated l) t) free)

-- a unit literal is free, and the clause's other literals are false
unit-only : (P : List Literal) (c : Clause) (k l : Literal) → is_unit_in P c k ≡ true → has c l ≡ true → has P (negated l) ≡ false → k ≡ l
unit-only P c k l unit a n =
    elim (or-cases (same k l) (has P (negated l)) (list_all-has (λ x. same k x || has P (negated x)) c l (and-right (not (has_var P k.var)) (others_false P c k) unit) a)) [
      | inl e ↦ same-eq k l e
      | inr t ↦ true_false (has P (negated l)) t n
    ]

unit-free : (P : List Literal) (c : Clause) (k : Literal) → is_unit_in P c k ≡ true → has_var P k.var ≡ false
unit-free P c k unit = not_true (has_var P k.var) (and-left (not (has_var P k.var)) (others_false P c k) unit)

-- a satisfied clause isn't unit
pub unit_literal-satisfied : (P : List Literal) (c : Clause) (l : Literal) → has c l ≡ true → has_var P l.var ≡ true → has P (negated l) ≡ false → unit_literal P c ≡ None
unit_literal-satisfied P c l a t n = find-none (is_unit_in P c) c (λ k b unit. true_false (has_var P l.var) t
    (subst (λ (x : Literal). has_var P x.var ≡ false) (unit-only P c k l unit a n) (unit-free P c k unit)))

-- nor is one with two free literals, whether or not they are of one variable
pub unit_literal-two : (P : List Literal) (c : Clause) (u l : Literal) → has c u ≡ true → has_var P u.var ≡ false → has c l ≡ true → has_var P l.var ≡ false → same l u ≡ false
    → unit_literal P c ≡ None
unit_literal-two P c u l a free b free_too apart =
    find-none (is_unit_in P c) c (λ k d unit. other-same l u apart (sym (unit-only P c k l unit b (not_negated P l free_too)) ∙ unit-only P c k u unit a (not_negated P u free)))

pub unit_literal-met : (P : List Literal) (c : Clause) (u : Literal) → IsMet P c (Some u) → (is_false P c ≡ false) × (unit_literal P c ≡ Some u)
unit_literal-met P c u h = (
  is_false-not P c u h.0 (not_negated P u h.1),
  find-only (is_unit_in P c) c u h.0 (and-true (not (has_var P u.var)) (others_false P c u) (not-false (has_var P u.var) h.1) h.2) only,
)
  where
    only : (l : Literal) → is_unit_in P c l ≡ true → l ≡ u
    only l unit = unit-only P c l u unit h.0 (not_negated P u h.1)

-- no variable stands in both signs
pub consistent : (P : List Literal) (l : Literal) → are_distinct P ≡ true → has P l ≡ true → has P (negated l) ≡ false
consistent [] l d a = absurd (cc)
consistent (k ∷ P) l d a = false_unless (has (k ∷ P) (negated l)) (λ b. both (has-cases k l P a) (has-cases k (negated l) P b) (λ s t. true_false (has P (negated l)) t (consistent P l (and-right (not (has_var P k.var)) (are_distinct P) d) s)))
  where
    alone : has_var P k.var ≡ false
    alone = not_true (has_var P k.var) (and-left (not (has_var P k.var)) (are_distinct P) d)

    both : (l ≡ k) ⊎ (has P l ≡ true) → (negated l ≡ k) ⊎ (has P (negated l) ≡ true) → (has P l ≡ true → has P (negated l) ≡ true → ⊥) → ⊥
    both (inl e) (inl f) rest = negated-other l (e ∙ sym f)
    both (inl e) (inr t) rest = true_false (has_var P k.var) (subst (λ (x : Literal). has_var P x.var ≡ true) e (has_var-has P (negated l) t)) alone
    both (inr s) (inl f) rest = true_false (has_var P k.var) (subst (λ (x : Literal). has_var P x.var ≡ true) f (has_var-has P l s)) alone
    both (inr s) (inr t) rest = rest s t

-- the literal at a place, and those before it
pub has-at : (c : Clause) (i : ℕ) (d : Literal) → i < length c → has c (get_or c i d) ≡ true
has-at [] i d less = absurd (omega arith)
has-at (k ∷ c) zero d less = has-head k c
has-at (k ∷ c) (suc i) d less = has-tail k (get_or c i d) c (has-at c i d (omega arith))

pub has-before : (c : Clause) (i : ℕ) (l : Literal) → has (take i c) l ≡ true → has c l ≡ true
has-before c i l h = let whole : take i c ++ drop i c ≡ c = take-append-drop i c in subst (λ x. has x l ≡ true) whole (has-append_left (take i c) (drop i c) l h)

pub IsMet-more : (P : List Literal) (c : Clause) (i : ℕ) (d : Literal) (o : Option Literal) → i < length c → IsMet P (take i c ++ get_or c i d ∷ []) o → IsMet P (take (i + 1) c) o
IsMet-more P c i d o less h = subst (λ x. IsMet P x o) (sym (take_more c i d less)) h

pub IsMet-end : (P : List Literal) (c : Clause) (i : ℕ) (o : Option Literal) → length c ≤ i → IsMet P (take i c) o → IsMet P c o
IsMet-end P c i o past h = let whole : take i c ≡ c = take_all i c past in rw whole at h

-- the steps of the walk, each part as a call has told it; l is the literal at the place i
pub at-place : (c : Clause) (i : ℕ) (l : Literal) → l ≡ get_or c i l → i < length c → has c l ≡ true
at-place c i l e less = subst (λ x. has c x ≡ true) (sym e) (has-at c i l less)

pub step-false : (P : List Literal) (c : Clause) (i : ℕ) (l : Literal) (o : Option Literal) → l ≡ get_or c i l → i < length c → IsMet P (take i c) o
    → has P (negated l) ≡ true → IsMet P (take (i + 1) c) o
step-false P c i l o e less h t = IsMet-more P c i l o less (subst (λ x. IsMet P (take i c ++ x ∷ []) o) e (IsMet-false P (take i c) o l h t))

pub step-free : (P : List Literal) (c : Clause) (i : ℕ) (l : Literal) → l ≡ get_or c i l → i < length c → IsMet P (take i c) None
    → has_var P l.var ≡ false → IsMet P (take (i + 1) c) (Some l)
step-free P c i l e less h free = IsMet-more P c i l (Some l) less (subst (λ x. IsMet P (take i c ++ x ∷ []) (Some l)) e (IsMet-free P (take i c) l h free))

pub step-same : (P : List Literal) (c : Clause) (i : ℕ) (l u : Literal) → l ≡ get_or c i l → i < length c → IsMet P (take i c) (Some u)
    → same l u ≡ true → IsMet P (take (i + 1) c) (Some u)
step-same P c i l u e less h one = IsMet-more P c i l (Some u) less (subst (λ x. IsMet P (take i c ++ x ∷ []) (Some u)) e (IsMet-same P (take i c) u l h one))

pub ends-satisfied : (P : List Literal) (c : Clause) (i : ℕ) (l : Literal) → are_distinct P ≡ true → l ≡ get_or c i l → i < length c
    → has P l ≡ true → (is_false P c ≡ false) × (unit_literal P c ≡ None)
ends-satisfied P c i l d e less held =
    let there = at-place c i l e less in
    let open_there = consistent P l d held in
    (is_false-not P c l there open_there, unit_literal-satisfied P c l there (has_var-has P l held) open_there)

pub ends-two : (P : List Literal) (c : Clause) (i : ℕ) (l u : Literal) → l ≡ get_or c i l → i < length c → IsMet P (take i c) (Some u)
    → has_var P l.var ≡ false → same l u ≡ false → (is_false P c ≡ false) × (unit_literal P c ≡ None)
ends-two P c i l u e less h free apart =
    let there = at-place c i l e less in
    (is_false-not P c l there (not_negated P l free), unit_literal-two P c u l (has-before c i u h.0) h.1 there free apart)
