-- Sets of literals by rising variable; and how many of their literals pass a test.
use Rattle.std.proofs.Common.{◌≡◌, ◌+◌, ◌<◌, ◌≤◌, Bool, true, false, not, List, [], ◌∷◌, refl, ap, sym, subst, ◌∙◌, nat_le, nat_lt, ltb-true, ltb-false, le-leb, ◌⊎◌, inl, inr, filter, cond, count_by, arith, if◌then◌else◌}
use Rattle.std.proofs.lemmas.List.Sums.{sum_by-cons}
use Rattle.theory.specs.Literals.{Literal, Clause, negated, same, has, has_var, are_distinct}
use Rattle.theory.specs.Learning.{with_literal, with_literals}
pub use Rattle.theory.specs.Learning.{IsRising}
use Rattle.theory.proofs.literals.LiteralLemmas.{and-left, and-right, true_or_false, not_true, same-eq}
use Rattle.theory.proofs.literals.LiteralSets.{Refutes, true_false, and-true, negated-negated, other-same, same-other, one_or_other, has-head, has-tail, has-cases, has_var-has, has_var-none, has-from_filter, has-from_with_literal, has-from_with_literals}

pub IsRising-filter : (p : Literal → Bool) (S : Clause) → IsRising S → IsRising (filter p S)
IsRising-filter p [] h = tt
IsRising-filter p (k ∷ S) h = go (p k) (IsRising-filter p S h.1)
  where
    go : (b : Bool) → IsRising (filter p S) → IsRising (cond b (k ∷ filter p S) (filter p S))
    go true r = (λ l a. h.0 l (has-from_filter p S l a).0, r)
    go false r = r

-- a literal more, where a literal of its variable is that literal
IsRising-with_literal : (l : Literal) (S : Clause) → ((k : Literal) → has S k ≡ true → k.var ≡ l.var → k ≡ l) → IsRising S → IsRising (with_literal l S)
IsRising-with_literal l [] one h = (λ k a. absurd (cc), tt)
IsRising-with_literal l (k ∷ S) one h = equal (same l k) refl (IsRising-with_literal l S (λ j a. one j (has-tail k j S a)) h.1)
  where
    below : (b : Bool) → nat_lt k.var l.var ≡ b → same l k ≡ false → IsRising (with_literal l S) → IsRising (if b then k ∷ with_literal l S else l ∷ k ∷ S)
    below true e d r = (
      λ j a. elim (has-from_with_literal l j S a) [
        | inl i ↦ subst (λ (x : Literal). k.var < x.var) (sym i) (ltb-true k.var l.var e)
        | inr i ↦ h.0 j i
      ],
      r,
    )
    below false e d r =
        let most : l.var ≤ k.var = ltb-false k.var l.var e in
        let differs : ¬ (k.var ≡ l.var) = λ v. other-same l k d (sym (one k (has-head k S) v)) in
        let less : l.var < k.var = omega arith in (
          λ j a. elim (has-cases k j S a) [
            | inl i ↦ subst (λ (x : Literal). l.var < x.var) (sym i) less
            | inr i ↦ (let more = h.0 j i in omega arith)
          ],
          h,
        )

    equal : (b : Bool) → same l k ≡ b → IsRising (with_literal l S) → IsRising (if b then k ∷ S else if nat_lt k.var l.var then k ∷ with_literal l S else l ∷ k ∷ S)
    equal true e r = h
    equal false e r = below (nat_lt k.var l.var) refl e r

-- each variable stands in one sign
abbrev pub IsOneSigned : List Literal → Type 0
IsOneSigned P = (k l : Literal) → has P k ≡ true → has P l ≡ true → k.var ≡ l.var → k ≡ l

pub IsRising-with_literals : (P : List Literal) (c S : Clause) → IsOneSigned P → Refutes P c → Refutes P S → IsRising S → IsRising (with_literals c S)
IsRising-with_literals P [] S one rc rs h = h
IsRising-with_literals P (l ∷ c) S one rc rs h =
    IsRising-with_literal l (with_literals c S) agrees (IsRising-with_literals P c S one (λ k a. rc k (has-tail l k c a)) rs h)
  where
    refuted : (k : Literal) → (has c k ≡ true) ⊎ (has S k ≡ true) → has P (negated k) ≡ true
    refuted k (inl a) = rc k (has-tail l k c a)
    refuted k (inr a) = rs k a

    agrees : (k : Literal) → has (with_literals c S) k ≡ true → k.var ≡ l.var → k ≡ l
    agrees k a v =
        let same_negation : negated k ≡ negated l = one (negated k) (negated l) (refuted k (has-from_with_literals c S k a)) (rc l (has-head l c)) v in
        sym (negated-negated k) ∙ (ap negated same_negation ∙ negated-negated l)

pub are_distinct-rising : (S : Clause) → IsRising S → are_distinct S ≡ true
are_distinct-rising [] h = refl
are_distinct-rising (k ∷ S) h =
    and-true (not (has_var S k.var)) (are_distinct S) (ap not (has_var-none S k.var (λ l a e. (let more = h.0 l a in absurd (omega arith))))) (are_distinct-rising S h.1)

-- counts
count-here : (p : Literal → Bool) (k : Literal) (S : Clause) → p k ≡ true → count_by p (k ∷ S) ≡ 1 + count_by p S
count-here p k S h = sum_by-cons (λ l. cond (p l) 1 0) k S ∙ ap (λ b. cond b 1 0 + count_by p S) h

count-passed : (p : Literal → Bool) (k : Literal) (S : Clause) → p k ≡ false → count_by p (k ∷ S) ≡ count_by p S
count-passed p k S h = let more : count_by p (k ∷ S) ≡ 0 + count_by p S = sum_by-cons (λ l. cond (p l) 1 0) k S ∙ ap (λ b. cond b 1 0 + count_by p S) h in omega arith

count-grows : (p : Literal → Bool) (k : Literal) (S : Clause) → count_by p S ≤ count_by p (k ∷ S)
count-grows p k S = elim (true_or_false (p k)) [
  | inl e ↦ (let c = count-here p k S e in omega arith)
  | inr e ↦ (let c = count-passed p k S e in omega arith)
]

count-one : (p : Literal → Bool) (S : Clause) (l : Literal) → has S l ≡ true → p l ≡ true → 1 ≤ count_by p S
count-one p [] l a t = absurd (cc)
count-one p (k ∷ S) l a t = elim (has-cases k l S a) [
  | inl e ↦ (let c = count-here p k S (ap p (sym e) ∙ t) in omega arith)
  | inr r ↦ (let more = count-one p S l r t in let c = count-grows p k S in omega arith)
]

count-two : (p : Literal → Bool) (S : Clause) (k l : Literal) → has S k ≡ true → p k ≡ true → has S l ≡ true → p l ≡ true → same k l ≡ false → 2 ≤ count_by p S
count-two p [] k l a s b t d = absurd (cc)
count-two p (j ∷ S) k l a s b t d = go (has-cases j k S a) (has-cases j l S b) (λ x y. count-two p S k l x s y t d)
  where
    go : (k ≡ j) ⊎ (has S k ≡ true) → (l ≡ j) ⊎ (has S l ≡ true) → (has S k ≡ true → has S l ≡ true → 2 ≤ count_by p S) → 2 ≤ count_by p (j ∷ S)
    go (inl x) (inl y) more = absurd (other-same k l d (x ∙ sym y))
    go (inl x) (inr y) more = let c = count-here p j S (ap p (sym x) ∙ s) in let one = count-one p S l y t in omega arith
    go (inr x) (inl y) more = let c = count-here p j S (ap p (sym y) ∙ t) in let one = count-one p S k x s in omega arith
    go (inr x) (inr y) more = let two = more x y in let c = count-grows p j S in omega arith

-- at most one literal passes
abbrev pub PassesOnce : (Literal → Bool) → Clause → Type 0
PassesOnce p S = (k l : Literal) → has S k ≡ true → p k ≡ true → has S l ≡ true → p l ≡ true → k ≡ l

pub PassesOnce-count : (p : Literal → Bool) (S : Clause) → nat_le 2 (count_by p S) ≡ false → PassesOnce p S
PassesOnce-count p S h k l a s b t = elim (one_or_other k l) [
  | inl e ↦ e
  | inr d ↦ true_false (nat_le 2 (count_by p S)) (le-leb 2 (count_by p S) (count-two p S k l a s b t d)) h
]

count-witness : (p : Literal → Bool) (S : Clause) → 1 ≤ count_by p S → (k : Literal) × (has S k ≡ true) × (p k ≡ true)
count-witness p [] h = absurd (omega arith)
count-witness p (j ∷ S) h = elim (true_or_false (p j)) [
  | inl e ↦ (j, has-head j S, e)
  | inr e ↦ (let c = count-passed p j S e in let more = count-witness p S (omega arith) in (more.0, has-tail j more.0 S more.1, more.2))
]

-- where two pass, one of them is another than x
pub another : (p : Literal → Bool) (S : Clause) (x : Literal) → are_distinct S ≡ true → 2 ≤ count_by p S
    → (k : Literal) × (has S k ≡ true) × (p k ≡ true) × (same x k ≡ false)
another p [] x d h = absurd (omega arith)
another p (j ∷ S) x d h = go (true_or_false (p j)) (true_or_false (same x j)) (λ more. another p S x (and-right (not (has_var S j.var)) (are_distinct S) d) more)
  where
    Other : Clause → Type 0
    Other U = (k : Literal) × (has U k ≡ true) × (p k ≡ true) × (same x k ≡ false)

    alone : has_var S j.var ≡ false
    alone = not_true (has_var S j.var) (and-left (not (has_var S j.var)) (are_distinct S) d)

    go : (p j ≡ true) ⊎ (p j ≡ false) → (same x j ≡ true) ⊎ (same x j ≡ false) → (2 ≤ count_by p S → Other S) → Other (j ∷ S)
    go (inl e) (inr s) more = (j, has-head j S, e, s)
    go (inl e) (inl s) more =
        let c = count-here p j S e in
        let k = count-witness p S (omega arith) in (
          k.0,
          has-tail j k.0 S k.1,
          k.2,
          same-other x k.0 (λ q. true_false (has_var S j.var) (subst (λ (y : Literal). has_var S y.var ≡ true) (sym q ∙ same-eq x j s) (has_var-has S k.0 k.1)) alone),
        )
    go (inr e) s more =
        let c = count-passed p j S e in
        let k = more (omega arith) in
        (k.0, has-tail j k.0 S k.1, k.2, k.3)
