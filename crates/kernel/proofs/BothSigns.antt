-- A clause that has both literals of a variable is never false and never unit.
use Rattle.std.proofs.Common.{◌≡◌, Bool, true, false, ◌||◌, List, [], ◌∷◌, sym, subst, ◌∙◌, ◌⊎◌, inl, inr}
use Rattle.std.specs.List.{list_any}
use Rattle.theory.specs.Literals.{Literal, Clause, same, has, has_var, has_both_signs, negated}
use Rattle.theory.specs.Status.{is_false, others_false}
use Rattle.theory.proofs.literals.LiteralLemmas.{or-cases, or-left, or-right, same-eq, same-refl}
use Rattle.theory.proofs.literals.LiteralSets.{negated-other}
use Rattle.kernel.specs.Watching.{IsConsistent}
use Rattle.kernel.proofs.LiteralFacts.{all-member, free-not, negated-negated}

-- a literal that passes a test
passing : (p : Literal → Bool) (c : Clause) → list_any p c ≡ true → (l : Literal) × (has c l ≡ true) × (p l ≡ true)
passing p [] h = absurd (cc)
passing p (k ∷ c) h = go (or-cases (p k) (list_any p c) h) (passing p c)
  where
    go : (p k ≡ true) ⊎ (list_any p c ≡ true) → (list_any p c ≡ true → (l : Literal) × (has c l ≡ true) × (p l ≡ true)) → (l : Literal) × (has (k ∷ c) l ≡ true) × (p l ≡ true)
    go (inl e) more = (k, or-left (same k k) (has c k) (same-refl k), e)
    go (inr e) more = let r = more e in (r.0, or-right (same r.0 k) (has c r.0) r.1, r.2)

pub both_signs-false : (P : List Literal) (c : Clause) → IsConsistent P → has_both_signs c ≡ true → is_false P c ≡ true → ⊥
both_signs-false P c ok both all =
    let r = passing (λ l. has c (negated l)) c both in
    let a : has P (negated r.0) ≡ true = all-member (λ l. has P (negated l)) c r.0 all r.1 in
    let b : has P (negated (negated r.0)) ≡ true = all-member (λ l. has P (negated l)) c (negated r.0) all r.2 in
    ok r.0 (subst (λ (l : Literal). has P l ≡ true) (negated-negated r.0) b) a

pub both_signs-unit : (P : List Literal) (c : Clause) (y : Literal) → IsConsistent P → has_both_signs c ≡ true → has_var P y.var ≡ false → others_false P c y ≡ true → ⊥
both_signs-unit P c y ok both free all =
    go (or-cases (same y r.0) (has P (negated r.0)) (all-member (λ l. same y l || has P (negated l)) c r.0 all r.1))
    (or-cases (same y (negated r.0)) (has P (negated (negated r.0))) (all-member (λ l. same y l || has P (negated l)) c (negated r.0) all r.2))
  where
    r : (l : Literal) × (has c l ≡ true) × (has c (negated l) ≡ true)
    r = passing (λ l. has c (negated l)) c both

    held : has P (negated (negated r.0)) ≡ true → has P r.0 ≡ true
    held h = subst (λ (l : Literal). has P l ≡ true) (negated-negated r.0) h

    go : (same y r.0 ≡ true) ⊎ (has P (negated r.0) ≡ true) → (same y (negated r.0) ≡ true) ⊎ (has P (negated (negated r.0)) ≡ true) → ⊥
    go (inl e) (inl f) = negated-other r.0 (sym (same-eq y r.0 e) ∙ same-eq y (negated r.0) f)
    go (inl e) (inr f) = free-not P y free (subst (λ (l : Literal). has P l ≡ true) (sym (same-eq y r.0 e)) (held f))
    go (inr e) (inl f) = free-not P y free (subst (λ (l : Literal). has P l ≡ true) (sym (same-eq y (negated r.0) f)) e)
    go (inr e) (inr f) = ok r.0 (held f) e
