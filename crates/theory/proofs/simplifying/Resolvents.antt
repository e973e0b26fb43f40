-- A resolvent passes the checker by the two clauses that it follows from; and a variable is
-- eliminable where one side of each resolvent is implied, as by a unit clause.
use Rattle.std.proofs.Common.{◌≡◌, ℕ, true, false, List, [], ◌∷◌, ap, sym, subst, ◌∙◌, inl, inr, Some}
use Rattle.std.specs.List.{list_any, list_all}
use Rattle.theory.specs.Literals.{Literal, Clause, negated, negations, positive, negative, same, has, has_var, has_both_signs, without}
use Rattle.theory.specs.Truth.{IsOver}
use Rattle.theory.specs.Checking.{Numbered, clause_of, hint, take_hints, conflicts}
use Rattle.theory.specs.Simplifying.{resolvent, clauses_in, having, is_implied, AreResolved, IsAddable}
use Rattle.theory.proofs.literals.LiteralLemmas.{or-cases, or-left, or-right, same-eq}
use Rattle.theory.proofs.literals.LiteralSets.{Refutes, true_false, has-head, has-tail, has-equal, has-append_left, has-append_right, has-without, has-negations, has-from_negations, has_var-has, has_var-none, list_all-has, negated-negated, one_or_other}
use Rattle.theory.proofs.checker.Hints.{hint-false, hint-unit, list_all-from, take_hints-false, take_hints-unit}
use Rattle.theory.proofs.simplifying.ListTests.{all-from, any-at, any-from, all-at}

-- the first clause is unit, the second one is false
resolvent-passes : (K : Numbered) (l : Literal) (c d r : Clause) (i j : ℕ) → clause_of K i ≡ Some c → clause_of K j ≡ Some d → has c l ≡ true
    → list_all (has r) (resolvent l c d) ≡ true → has_var r l.var ≡ false → take_hints K (negations r) (i ∷ j ∷ []) ≡ conflicts
resolvent-passes K l c d r i j first second there all free =
    take_hints-unit K P i (j ∷ []) l conflicts (ap (hint P) first ∙ hint-unit P c l there fresh others)
    (take_hints-false K (l ∷ P) j (ap (hint (l ∷ P)) second ∙ hint-false (l ∷ P) d refuted))
  where
    P : List Literal
    P = negations r

    fresh : has_var P l.var ≡ false
    fresh = has_var-none P l.var (λ k a e. true_false (has_var r l.var) (subst (λ v. has_var r v ≡ true) e (has_var-has r (negated k) (has-from_negations r k a))) free)

    others : (k : Literal) → has c k ≡ true → same l k ≡ false → has P (negated k) ≡ true
    others k a s = has-negations r k (list_all-has (has r) (resolvent l c d) k all (has-append_left (without c l) (without d (negated l)) k (has-without c l k a s)))

    refuted : Refutes (l ∷ P) d
    refuted k a = elim (one_or_other (negated l) k) [
      | inl e ↦ has-equal l (negated k) P (ap negated (sym e) ∙ negated-negated l)
      | inr s ↦ has-tail l (negated k) P (has-negations r k (list_all-has (has r) (resolvent l c d) k all
          (has-append_right (without c l) (without d (negated l)) k (has-without d (negated l) k a s))))
    ]

pub resolvent-addable : (V : ℕ) (K : Numbered) (l : Literal) (c d r : Clause) (i j : ℕ) → clause_of K i ≡ Some c → clause_of K j ≡ Some d → has c l ≡ true
    → list_all (has r) (resolvent l c d) ≡ true → has_var r l.var ≡ false → has_both_signs r ≡ false → IsOver V r → IsAddable V K (record { clause = r; hints = i ∷ j ∷ []; forgets = [] })
resolvent-addable V K l c d r i j first second there all free sign over = record {
  passes = resolvent-passes K l c d r i j first second there all free;
  one_sign = sign;
  over = over;
}

-- what implies a clause implies one with more literals
pub has_both_signs-more : (c d : Clause) → ((l : Literal) → has c l ≡ true → has d l ≡ true) → has_both_signs c ≡ true → has_both_signs d ≡ true
has_both_signs-more c d more h = go c (λ l a. a) h
  where
    found : (l : Literal) (e : Clause) → has e l ≡ true → has d (negated l) ≡ true → list_any (λ l. has d (negated l)) e ≡ true
    found l [] a b = absurd (cc)
    found l (k ∷ e) a b = elim (or-cases (same l k) (has e l) a) [
      | inl s ↦ or-left (has d (negated k)) (list_any (λ l. has d (negated l)) e) (subst (λ y. has d (negated y) ≡ true) (same-eq l k s) b)
      | inr r ↦ or-right (has d (negated k)) (list_any (λ l. has d (negated l)) e) (found l e r b)
    ]

    go : (e : Clause) → ((l : Literal) → has e l ≡ true → has c l ≡ true) → list_any (λ l. has c (negated l)) e ≡ true → has_both_signs d ≡ true
    go [] within h = absurd (cc)
    go (k ∷ e) within h = elim (or-cases (has c (negated k)) (list_any (λ l. has c (negated l)) e) h) [
      | inl here ↦ found k d (more k (within k (has-head k e))) (more (negated k) here)
      | inr rest ↦ go e (λ l a. within l (has-tail k l e a)) rest
    ]

pub implied-more : (K : Numbered) (c d : Clause) → ((l : Literal) → has c l ≡ true → has d l ≡ true) → is_implied K c ≡ true → is_implied K d ≡ true
implied-more K c d more h = elim (or-cases (has_both_signs c) (list_any (λ e. list_all (has c) e) (clauses_in K)) h) [
  | inl twice ↦ or-left (has_both_signs d) (list_any (λ e. list_all (has d) e) (clauses_in K)) (has_both_signs-more c d more twice)
  | inr some ↦
      let one = any-at (λ e. list_all (has c) e) (clauses_in K) some in
      or-right (has_both_signs d) (list_any (λ e. list_all (has d) e) (clauses_in K))
      (any-from (λ e. list_all (has d) e) (clauses_in K) one.0 one.1 (list_all-from (has d) one.0 (λ l a. more l (list_all-has (has c) one.0 l one.2 a))))
]

-- it is enough that what is left implies one side
pub resolved-right : (L K : Numbered) (x : ℕ) → list_all (λ d. is_implied L (without d (negative x))) (having (negative x) K) ≡ true → AreResolved L K x
resolved-right L K x h =
    all-from (λ c. list_all (λ d. is_implied L (resolvent (positive x) c d)) (having (negative x) K)) (having (positive x) K) (λ c a.
    all-from (λ d. is_implied L (resolvent (positive x) c d)) (having (negative x) K) (λ d b.
    implied-more L (without d (negative x)) (resolvent (positive x) c d) (has-append_right (without c (positive x)) (without d (negative x)))
    (all-at (λ d. is_implied L (without d (negative x))) (having (negative x) K) d h b)))

pub resolved-left : (L K : Numbered) (x : ℕ) → list_all (λ c. is_implied L (without c (positive x))) (having (positive x) K) ≡ true → AreResolved L K x
resolved-left L K x h =
    all-from (λ c. list_all (λ d. is_implied L (resolvent (positive x) c d)) (having (negative x) K)) (having (positive x) K) (λ c a.
    all-from (λ d. is_implied L (resolvent (positive x) c d)) (having (negative x) K) (λ d b.
    implied-more L (without c (positive x)) (resolvent (positive x) c d) (has-append_left (without c (positive x)) (without d (negative x)))
    (all-at (λ c. is_implied L (without c (positive x))) (having (positive x) K) c h a)))
