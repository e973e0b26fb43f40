-- Lists of literals as sets: what has a literal, and what has one of a variable.
use Rattle.std.proofs.Common.{◌≡◌, ℕ, Bool, true, false, not, ◌&&◌, ◌||◌, List, [], ◌∷◌, ◌++◌, refl, ap, sym, subst, ◌∙◌, nat_eq, nat_lt, eqb-true, eq-eqb, ◌⊎◌, inl, inr, filter, cond, if◌then◌else◌}
use Rattle.std.specs.List.{list_all, list_any}
use Rattle.theory.specs.Literals.{Literal, Clause, negated, negations, same, has, has_var, has_both_signs, without}
use Rattle.theory.specs.Status.{is_false}
use Rattle.theory.specs.Learning.{with_literal, with_literals, resolved}
use Rattle.theory.proofs.literals.LiteralLemmas.{and-left, and-right, or-cases, or-left, or-right, true_or_false, not_true, same-eq, same-refl}

-- the negation of each literal of c is in P
abbrev pub Refutes : List Literal → Clause → Type 0
Refutes P c = (l : Literal) → has c l ≡ true → has P (negated l) ≡ true

-- no variable of U is in P
abbrev pub Apart : List Literal → List Literal → Type 0
Apart U P = (v : ℕ) → has_var U v ≡ true → has_var P v ≡ false

pub true_false : {A : Type 0} (b : Bool) → b ≡ true → b ≡ false → A
true_false b h k = absurd (cc)

pub not-false : (b : Bool) → b ≡ false → not b ≡ true
not-false b h = ap not h

pub and-true : (a b : Bool) → a ≡ true → b ≡ true → a && b ≡ true
and-true a b h k = rw h k

pub or-none : (a b : Bool) → a ≡ false → b ≡ false → a || b ≡ false
or-none true b h k = h
or-none false b h k = k

pub or-false_left : (a b : Bool) → a || b ≡ false → a ≡ false
or-false_left true b h = h
or-false_left false b h = refl

pub or-false_right : (a b : Bool) → a || b ≡ false → b ≡ false
or-false_right true b h = absurd (cc)
or-false_right false b h = h

pub false_unless : (b : Bool) → (b ≡ true → ⊥) → b ≡ false
false_unless true h = absurd (h refl)
false_unless false h = refl

pub negated-negated : (l : Literal) → negated (negated l) ≡ l
negated-negated l = λ i. record { var = l.var; positive = twice l.positive i }
  where
    twice : (b : Bool) → not (not b) ≡ b
    twice true = refl
    twice false = refl

pub same-other : (k l : Literal) → (k ≡ l → ⊥) → same k l ≡ false
same-other k l h = false_unless (same k l) (λ e. h (same-eq k l e))

pub other-same : (k l : Literal) → same k l ≡ false → k ≡ l → ⊥
other-same k l h e = true_false (same k l) (subst (λ x. same k x ≡ true) e (same-refl k)) h

pub one_or_other : (k l : Literal) → (k ≡ l) ⊎ (same k l ≡ false)
one_or_other k l = elim (true_or_false (same k l)) [ inl e ↦ inl (same-eq k l e) | inr e ↦ inr e ]

-- two literals of one variable are one, or one is the other's negation
pub same_variable : (k l : Literal) → k.var ≡ l.var → (k ≡ l) ⊎ (k ≡ negated l)
same_variable k l h = go k.positive l.positive refl refl
  where
    go : (a b : Bool) → k.positive ≡ a → l.positive ≡ b → (k ≡ l) ⊎ (k ≡ negated l)
    go true true p q = inl (let s : k.positive ≡ l.positive = cc in λ i. record { var = h i; positive = s i })
    go false false p q = inl (let s : k.positive ≡ l.positive = cc in λ i. record { var = h i; positive = s i })
    go true false p q = inr (let s : k.positive ≡ not l.positive = p ∙ sym (ap not q) in λ i. record { var = h i; positive = s i })
    go false true p q = inr (let s : k.positive ≡ not l.positive = p ∙ sym (ap not q) in λ i. record { var = h i; positive = s i })

pub negated-other : (l : Literal) → l ≡ negated l → ⊥
negated-other l h = go l.positive (ap (λ (x : Literal). x.positive) h)
  where
    go : (b : Bool) → b ≡ not b → ⊥
    go true e = cc
    go false e = cc

pub has-head : (l : Literal) (c : Clause) → has (l ∷ c) l ≡ true
has-head l c = or-left (same l l) (has c l) (same-refl l)

-- the head, where another name stands for it
pub has-equal : (k l : Literal) (c : Clause) → l ≡ k → has (k ∷ c) l ≡ true
has-equal k l c e = subst (λ x. has (k ∷ c) x ≡ true) (sym e) (has-head k c)

pub has-tail : (k l : Literal) (c : Clause) → has c l ≡ true → has (k ∷ c) l ≡ true
has-tail k l c h = or-right (same l k) (has c l) h

pub has-cases : (k l : Literal) (c : Clause) → has (k ∷ c) l ≡ true → (l ≡ k) ⊎ (has c l ≡ true)
has-cases k l c h = elim (or-cases (same l k) (has c l) h) [ inl e ↦ inl (same-eq l k e) | inr e ↦ inr e ]

pub has-append_left : (c d : Clause) (l : Literal) → has c l ≡ true → has (c ++ d) l ≡ true
has-append_left [] d l h = absurd (cc)
has-append_left (k ∷ c) d l h = elim (has-cases k l c h) [
  | inl e ↦ has-equal k l (c ++ d) e
  | inr r ↦ has-tail k l (c ++ d) (has-append_left c d l r)
]

pub has-append_right : (c d : Clause) (l : Literal) → has d l ≡ true → has (c ++ d) l ≡ true
has-append_right [] d l h = h
has-append_right (k ∷ c) d l h = has-tail k l (c ++ d) (has-append_right c d l h)

pub has-append_cases : (c d : Clause) (l : Literal) → has (c ++ d) l ≡ true → (has c l ≡ true) ⊎ (has d l ≡ true)
has-append_cases [] d l h = inr h
has-append_cases (k ∷ c) d l h = elim (has-cases k l (c ++ d) h) [
  | inl e ↦ inl (has-equal k l c e)
  | inr r ↦ elim (has-append_cases c d l r) [ inl a ↦ inl (has-tail k l c a) | inr b ↦ inr b ]
]

pub has_var-head : (l : Literal) (c : Clause) → has_var (l ∷ c) l.var ≡ true
has_var-head l c = or-left (nat_eq l.var l.var) (has_var c l.var) (eq-eqb l.var l.var refl)

pub has_var-has : (c : Clause) (l : Literal) → has c l ≡ true → has_var c l.var ≡ true
has_var-has [] l h = h
has_var-has (k ∷ c) l h = elim (has-cases k l c h) [
  | inl e ↦ or-left (nat_eq l.var k.var) (has_var c l.var) (eq-eqb l.var k.var (ap (λ (x : Literal). x.var) e))
  | inr r ↦ or-right (nat_eq l.var k.var) (has_var c l.var) (has_var-has c l r)
]

-- a literal of the variable
pub literal_of_var : (c : Clause) (v : ℕ) → has_var c v ≡ true → (l : Literal) × (has c l ≡ true) × (l.var ≡ v)
literal_of_var [] v h = absurd (cc)
literal_of_var (k ∷ c) v h = elim (or-cases (nat_eq v k.var) (has_var c v) h) [
  | inl e ↦ (k, has-head k c, sym (eqb-true v k.var e))
  | inr r ↦ let more = literal_of_var c v r in (more.0, has-tail k more.0 c more.1, more.2)
]

-- where no literal is of the variable
pub has_var-none : (c : Clause) (v : ℕ) → ((l : Literal) → has c l ≡ true → l.var ≡ v → ⊥) → has_var c v ≡ false
has_var-none c v h = false_unless (has_var c v) (λ t. let one = literal_of_var c v t in h one.0 one.1 one.2)

pub has_var-append_left : (c d : Clause) (v : ℕ) → has_var (c ++ d) v ≡ false → has_var c v ≡ false
has_var-append_left c d v h = has_var-none c v (λ l a e. true_false (has_var (c ++ d) v) (subst (λ x. has_var (c ++ d) x ≡ true) e (has_var-has (c ++ d) l (has-append_left c d l a))) h)

pub has_var-append_right : (c d : Clause) (v : ℕ) → has_var (c ++ d) v ≡ false → has_var d v ≡ false
has_var-append_right c d v h = has_var-none d v (λ l a e. true_false (has_var (c ++ d) v) (subst (λ x. has_var (c ++ d) x ≡ true) e (has_var-has (c ++ d) l (has-append_right c d l a))) h)

pub Refutes-from_is_false : (P : List Literal) (c : Clause) → is_false P c ≡ true → Refutes P c
Refutes-from_is_false P [] e l h = absurd (cc)
Refutes-from_is_false P (k ∷ c) e l h = elim (has-cases k l c h) [
  | inl i ↦ subst (λ x. has P (negated x) ≡ true) (sym i) (and-left (has P (negated k)) (is_false P c) e)
  | inr r ↦ Refutes-from_is_false P c (and-right (has P (negated k)) (is_false P c) e) l r
]

pub is_false-from_Refutes : (P : List Literal) (c : Clause) → Refutes P c → is_false P c ≡ true
is_false-from_Refutes P [] h = refl
is_false-from_Refutes P (k ∷ c) h =
    and-true (has P (negated k)) (is_false P c) (h k (has-head k c)) (is_false-from_Refutes P c (λ l e. h l (has-tail k l c e)))

pub has-negations : (Q : List Literal) (l : Literal) → has Q l ≡ true → has (negations Q) (negated l) ≡ true
has-negations [] l h = h
has-negations (k ∷ Q) l h = elim (has-cases k l Q h) [
  | inl e ↦ has-equal (negated k) (negated l) (negations Q) (ap negated e)
  | inr r ↦ has-tail (negated k) (negated l) (negations Q) (has-negations Q l r)
]

pub has-from_negations : (Q : List Literal) (l : Literal) → has (negations Q) l ≡ true → has Q (negated l) ≡ true
has-from_negations [] l h = h
has-from_negations (k ∷ Q) l h = elim (has-cases (negated k) l (negations Q) h) [
  | inl e ↦ has-equal k (negated l) Q (ap negated e ∙ negated-negated k)
  | inr r ↦ has-tail k (negated l) Q (has-from_negations Q l r)
]

-- the negations of c refute it
pub Refutes-negations : (c : Clause) → Refutes (negations c) c
Refutes-negations c l h = has-negations c l h

pub has-filter : (p : Literal → Bool) (c : Clause) (l : Literal) → has c l ≡ true → p l ≡ true → has (filter p c) l ≡ true
has-filter p [] l h t = h
has-filter p (k ∷ c) l h t = go (p k) refl (has-cases k l c h) (λ r. has-filter p c l r t)
  where
    go : (b : Bool) → p k ≡ b → (l ≡ k) ⊎ (has c l ≡ true) → (has c l ≡ true → has (filter p c) l ≡ true) → has (cond b (k ∷ filter p c) (filter p c)) l ≡ true
    go true e (inl i) more = has-equal k l (filter p c) i
    go true e (inr r) more = has-tail k l (filter p c) (more r)
    go false e (inl i) more = true_false (p k) (ap p (sym i) ∙ t) e
    go false e (inr r) more = more r

pub has-from_filter : (p : Literal → Bool) (c : Clause) (l : Literal) → has (filter p c) l ≡ true → (has c l ≡ true) × (p l ≡ true)
has-from_filter p [] l h = absurd (cc)
has-from_filter p (k ∷ c) l h = go (p k) refl h (has-from_filter p c l)
  where
    Claim : Type 0
    Claim = (has (k ∷ c) l ≡ true) × (p l ≡ true)

    later : (has c l ≡ true) × (p l ≡ true) → Claim
    later more = (has-tail k l c more.0, more.1)

    go : (b : Bool) → p k ≡ b → has (cond b (k ∷ filter p c) (filter p c)) l ≡ true → (has (filter p c) l ≡ true → (has c l ≡ true) × (p l ≡ true)) → Claim
    go true e t more = elim (has-cases k l (filter p c) t) [
      | inl i ↦ (has-equal k l c i, ap p i ∙ e)
      | inr r ↦ later (more r)
    ]
    go false e t more = later (more t)

pub has-without : (c : Clause) (l k : Literal) → has c k ≡ true → same l k ≡ false → has (without c l) k ≡ true
has-without c l k h e = has-filter (λ k. not (same l k)) c k h (ap not e)

pub has-from_without : (c : Clause) (l k : Literal) → has (without c l) k ≡ true → (has c k ≡ true) × (same l k ≡ false)
has-from_without c l k h = let more = has-from_filter (λ k. not (same l k)) c k h in (more.0, not_true (same l k) more.1)

-- a set with a literal
pub has-with_literal : (l k : Literal) (S : Clause) → (k ≡ l) ⊎ (has S k ≡ true) → has (with_literal l S) k ≡ true
has-with_literal l k [] (inl e) = has-equal l k [] e
has-with_literal l k [] (inr h) = absurd (cc)
has-with_literal l k (j ∷ S) h = equal (same l j) refl (λ o. has-with_literal l k S o)
  where
    More : Type 0
    More = (k ≡ l) ⊎ (has S k ≡ true) → has (with_literal l S) k ≡ true

    at : (k ≡ l) ⊎ (has (j ∷ S) k ≡ true) → l ≡ j → has (j ∷ S) k ≡ true
    at (inl i) e = has-equal j k S (i ∙ e)
    at (inr r) e = r

    rest : (k ≡ l) ⊎ (has (j ∷ S) k ≡ true) → More → has (j ∷ with_literal l S) k ≡ true
    rest (inl i) more = has-tail j k (with_literal l S) (more (inl i))
    rest (inr r) more = elim (has-cases j k S r) [
      | inl i ↦ has-equal j k (with_literal l S) i
      | inr s ↦ has-tail j k (with_literal l S) (more (inr s))
    ]

    here : (k ≡ l) ⊎ (has (j ∷ S) k ≡ true) → has (l ∷ j ∷ S) k ≡ true
    here (inl i) = has-equal l k (j ∷ S) i
    here (inr r) = has-tail l k (j ∷ S) r

    below : (b : Bool) → More → has (if b then j ∷ with_literal l S else l ∷ j ∷ S) k ≡ true
    below true more = rest h more
    below false more = here h

    equal : (b : Bool) → same l j ≡ b → More → has (if b then j ∷ S else if nat_lt j.var l.var then j ∷ with_literal l S else l ∷ j ∷ S) k ≡ true
    equal true e more = at h (same-eq l j e)
    equal false e more = below (nat_lt j.var l.var) more

pub has-from_with_literal : (l k : Literal) (S : Clause) → has (with_literal l S) k ≡ true → (k ≡ l) ⊎ (has S k ≡ true)
has-from_with_literal l k [] h = has-cases l k [] h
has-from_with_literal l k (j ∷ S) h = equal (same l j) h (has-from_with_literal l k S)
  where
    More : Type 0
    More = has (with_literal l S) k ≡ true → (k ≡ l) ⊎ (has S k ≡ true)

    rest : has (j ∷ with_literal l S) k ≡ true → More → (k ≡ l) ⊎ (has (j ∷ S) k ≡ true)
    rest t more = elim (has-cases j k (with_literal l S) t) [
      | inl i ↦ inr (has-equal j k S i)
      | inr r ↦ elim (more r) [ inl i ↦ inl i | inr s ↦ inr (has-tail j k S s) ]
    ]

    below : (b : Bool) → has (if b then j ∷ with_literal l S else l ∷ j ∷ S) k ≡ true → More → (k ≡ l) ⊎ (has (j ∷ S) k ≡ true)
    below true t more = rest t more
    below false t more = has-cases l k (j ∷ S) t

    equal : (b : Bool) → has (if b then j ∷ S else if nat_lt j.var l.var then j ∷ with_literal l S else l ∷ j ∷ S) k ≡ true → More → (k ≡ l) ⊎ (has (j ∷ S) k ≡ true)
    equal true t more = inr t
    equal false t more = below (nat_lt j.var l.var) t more

pub has-with_literals : (c S : Clause) (k : Literal) → (has c k ≡ true) ⊎ (has S k ≡ true) → has (with_literals c S) k ≡ true
has-with_literals [] S k (inl h) = absurd (cc)
has-with_literals [] S k (inr h) = h
has-with_literals (l ∷ c) S k (inl h) = elim (has-cases l k c h) [
  | inl i ↦ has-with_literal l k (with_literals c S) (inl i)
  | inr r ↦ has-with_literal l k (with_literals c S) (inr (has-with_literals c S k (inl r)))
]
has-with_literals (l ∷ c) S k (inr h) = has-with_literal l k (with_literals c S) (inr (has-with_literals c S k (inr h)))

pub has-from_with_literals : (c S : Clause) (k : Literal) → has (with_literals c S) k ≡ true → (has c k ≡ true) ⊎ (has S k ≡ true)
has-from_with_literals [] S k h = inr h
has-from_with_literals (l ∷ c) S k h = elim (has-from_with_literal l k (with_literals c S) h) [
  | inl i ↦ inl (has-equal l k c i)
  | inr r ↦ elim (has-from_with_literals c S k r) [ inl a ↦ inl (has-tail l k c a) | inr b ↦ inr b ]
]

-- what the resolved set has
pub has-resolved_set : (S c : Clause) (l k : Literal) → has S k ≡ true → same (negated l) k ≡ false → has (resolved S l c) k ≡ true
has-resolved_set S c l k h e = has-with_literals (without c l) (without S (negated l)) k (inr (has-without S (negated l) k h e))

pub has-resolved_clause : (S c : Clause) (l k : Literal) → has c k ≡ true → same l k ≡ false → has (resolved S l c) k ≡ true
has-resolved_clause S c l k h e = has-with_literals (without c l) (without S (negated l)) k (inl (has-without c l k h e))

pub has-from_resolved : (S c : Clause) (l k : Literal) → has (resolved S l c) k ≡ true → ((has S k ≡ true) × (same (negated l) k ≡ false)) ⊎ (has (without c l) k ≡ true)
has-from_resolved S c l k h = elim (has-from_with_literals (without c l) (without S (negated l)) k h) [
  | inl a ↦ inr a
  | inr b ↦ inl (has-from_without S (negated l) k b)
]

-- a clause that has no literal together with its negation
pub has_both_signs-none : (c : Clause) → ((l : Literal) → has c l ≡ true → has c (negated l) ≡ true → ⊥) → has_both_signs c ≡ false
has_both_signs-none c h = go c (λ l a. a)
  where
    go : (d : Clause) → ((l : Literal) → has d l ≡ true → has c l ≡ true) → list_any (λ l. has c (negated l)) d ≡ false
    go [] within = refl
    go (k ∷ d) within =
        let here : has c (negated k) ≡ false = false_unless (has c (negated k)) (λ t. h k (within k (has-head k d)) t) in
        let rest : list_any (λ l. has c (negated l)) d ≡ false = go d (λ l a. within l (has-tail k l d a)) in
        or-none (has c (negated k)) (list_any (λ l. has c (negated l)) d) here rest

-- none of the literals passes the test
pub list_any-none : (p : Literal → Bool) (c : Clause) → ((l : Literal) → has c l ≡ true → p l ≡ false) → list_any p c ≡ false
list_any-none p [] h = refl
list_any-none p (k ∷ c) h = or-none (p k) (list_any p c) (h k (has-head k c)) (list_any-none p c (λ l a. h l (has-tail k l c a)))

-- what all pass, each one passes
pub list_all-has : (p : Literal → Bool) (c : Clause) (l : Literal) → list_all p c ≡ true → has c l ≡ true → p l ≡ true
list_all-has p [] l h t = absurd (cc)
list_all-has p (k ∷ c) l h t = elim (has-cases k l c t) [
  | inl e ↦ ap p e ∙ and-left (p k) (list_all p c) h
  | inr r ↦ list_all-has p c l (and-right (p k) (list_all p c) h) r
]
