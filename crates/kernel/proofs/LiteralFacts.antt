-- Literals, and lists of them.
use Rattle.std.proofs.Common.{◌≡◌, Bool, true, false, not, ◌&&◌, ◌||◌, List, [], ◌∷◌, ◌++◌, refl, ap, ◌∙◌, nat_eq, ◌⊎◌, inl, inr}
use Rattle.std.specs.List.{list_all}
use Rattle.theory.specs.Literals.{Literal, Clause, same, same_sign, has, has_var, negated}
use Rattle.theory.proofs.literals.LiteralLemmas.{and-left, and-right, or-cases, or-left, or-right, true_or_false, same-eq, same-refl}

pub true_false : (b : Bool) → b ≡ true → b ≡ false → ⊥
true_false b h k = absurd (cc)

-- what all pass, a member passes
pub all-member : (p : Literal → Bool) (c : Clause) (k : Literal) → list_all p c ≡ true → has c k ≡ true → p k ≡ true
all-member p [] k h m = absurd (cc)
all-member p (x ∷ c) k h m = go (or-cases (same k x) (has c k) m) (all-member p c k (and-right (p x) (list_all p c) h))
  where
    go : (same k x ≡ true) ⊎ (has c k ≡ true) → (has c k ≡ true → p k ≡ true) → p k ≡ true
    go (inl e) more = rw (same-eq k x e) (and-left (p x) (list_all p c) h)
    go (inr e) more = more e

pub same-sym : (k l : Literal) → same k l ≡ true → same l k ≡ true
same-sym k l h = rw (same-eq k l h) (same-refl l)

pub same-sym-false : (k l : Literal) → same k l ≡ false → same l k ≡ false
same-sym-false k l h = go (true_or_false (same l k))
  where
    go : (same l k ≡ true) ⊎ (same l k ≡ false) → same l k ≡ false
    go (inl e) = absurd (true_false (same k l) (same-sym l k e) h)
    go (inr e) = e

not_not : (b : Bool) → not (not b) ≡ b
not_not true = refl
not_not false = refl

pub negated-negated : (l : Literal) → negated (negated l) ≡ l
negated-negated l = λ i. record { var = l.var; positive = not_not l.positive i }

-- two negations are one just where the literals are
pub same-negated : (k l : Literal) → same (negated k) (negated l) ≡ same k l
same-negated k l = ap (λ b. nat_eq k.var l.var && b) (go k.positive l.positive)
  where
    go : (a b : Bool) → same_sign (not a) (not b) ≡ same_sign a b
    go true true = refl
    go true false = refl
    go false true = refl
    go false false = refl

pub has-var : (P : List Literal) (l : Literal) → has P l ≡ true → has_var P l.var ≡ true
has-var [] l h = absurd (cc)
has-var (k ∷ P) l h = go (or-cases (same l k) (has P l) h) (has-var P l)
  where
    go : (same l k ≡ true) ⊎ (has P l ≡ true) → (has P l ≡ true → has_var P l.var ≡ true) → has_var (k ∷ P) l.var ≡ true
    go (inl e) more = or-left (nat_eq l.var k.var) (has_var P l.var) (and-left (nat_eq l.var k.var) (same_sign l.positive k.positive) e)
    go (inr e) more = or-right (nat_eq l.var k.var) (has_var P l.var) (more e)

-- a free variable has neither literal
pub free-not : (P : List Literal) (l : Literal) → has_var P l.var ≡ false → has P l ≡ true → ⊥
free-not P l h k = true_false (has_var P l.var) (has-var P l k) h

pub free-not_negated : (P : List Literal) (l : Literal) → has_var P l.var ≡ false → has P (negated l) ≡ true → ⊥
free-not_negated P l h k = true_false (has_var P l.var) (has-var P (negated l) k) h

pub has-append : (P Q : List Literal) (l : Literal) → has (P ++ Q) l ≡ has P l || has Q l
has-append [] Q l = refl
has-append (k ∷ P) Q l = ap (λ b. same l k || b) (has-append P Q l) ∙ or_assoc (same l k) (has P l) (has Q l)
  where
    or_assoc : (a b c : Bool) → a || (b || c) ≡ (a || b) || c
    or_assoc true b c = refl
    or_assoc false b c = refl

pub has-push : (P : List Literal) (k l : Literal) → has (P ++ k ∷ []) l ≡ has P l || same l k
has-push P k l = has-append P (k ∷ []) l ∙ ap (λ b. has P l || b) (or_false (same l k))
  where
    or_false : (b : Bool) → b || false ≡ b
    or_false true = refl
    or_false false = refl

pub or_false_left : (a b : Bool) → a || b ≡ false → a ≡ false
or_false_left true b h = h
or_false_left false b h = refl

pub or_false_right : (a b : Bool) → a || b ≡ false → b ≡ false
or_false_right true b h = absurd (cc)
or_false_right false b h = h

pub or_false : (a b : Bool) → a ≡ false → b ≡ false → a || b ≡ false
or_false a b h k = rw (h, k) refl
