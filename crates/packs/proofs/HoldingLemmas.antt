-- What is held true: a cube's literals, and the negations of a clause's besides.
use Rattle.std.proofs.Common.{◌≡◌, ℕ, ◌+◌, ◌<◌, ◌≤◌, Bool, true, false, not, List, [], ◌∷◌, ◌++◌, length, take, get_or, refl, ap, sym, subst, ◌∙◌, ◌⊎◌, inl, inr}
use Rattle.std.proofs.lemmas.List.{take_more, take_all}
use Rattle.theory.specs.Literals.{Literal, Clause, has, has_var, has_both_signs, negated, negations, are_distinct, IsCube}
use Rattle.theory.proofs.literals.LiteralSets.{true_false, and-true, has-head, has-tail, has-cases, has-append_left, has-append_right, has-append_cases, has_var-has, has_var-none, has-negations, has-from_negations, negated-negated, has_both_signs-none}
use Rattle.theory.proofs.literals.ClauseWalks.{consistent}
use Rattle.theory.proofs.trails.TrailLists.{literals-cube}
use Rattle.trail.proofs.Cubes.{cube_trail-free}
use Rattle.lrat.specs.Assumed.{AreSame}
use Rattle.lrat.proofs.SameLiterals.{AreSame-by}
use Rattle.lrat.proofs.Assumptions.{both-signs}
use Rattle.packs.specs.Known.{IsHolding, AreHeld}

-- each way of two that are the same
there : (c P : List Literal) → AreSame c P → (l : Literal) → has c l ≡ true → has P l ≡ true
there c P h l a = sym (ap (λ (f : Literal → Bool). f l) h) ∙ a

back : (c P : List Literal) → AreSame c P → (l : Literal) → has P l ≡ true → has c l ≡ true
back c P h l a = ap (λ (f : Literal → Bool). f l) h ∙ a

pub AreHeld-holding : (Q P : List Literal) → IsHolding Q P → AreHeld Q P
AreHeld-holding Q P h = there Q P h.same

pub free-same : (c P : List Literal) (v : ℕ) → AreSame c P → has_var c v ≡ false → has_var P v ≡ false
free-same c P v h free = has_var-none P v (λ l a e. true_false (has_var c v) (subst (λ n. has_var c n ≡ true) e (has_var-has c l (back c P h l a))) free)

distinct-more : (P : List Literal) (l : Literal) → are_distinct P ≡ true → has_var P l.var ≡ false → are_distinct (l ∷ P) ≡ true
distinct-more P l d free = and-true (not (has_var P l.var)) (are_distinct P) (ap not free) d

-- a cube's literals, one after the other
pub IsHolding-nothing : IsHolding [] []
IsHolding-nothing = record { same = refl; distinct = refl }

pub cube-free : (Q P : List Literal) (i : ℕ) (l : Literal) → IsCube Q → i < length Q → l ≡ get_or Q i l → IsHolding (take i Q) P → has_var P l.var ≡ false
cube-free Q P i l cube less at h =
    free-same (take i Q) P l.var h.same
    (subst (λ (x : Literal). has_var (take i Q) x.var ≡ false) (sym at) (rw (literals-cube (take i Q)) at (cube_trail-free Q i l cube less)))

pub IsHolding-more : (Q P : List Literal) (l : Literal) → has_var P l.var ≡ false → IsHolding Q P → IsHolding (Q ++ l ∷ []) (l ∷ P)
IsHolding-more Q P l free h = record {
  same = AreSame-by (Q ++ l ∷ []) (l ∷ P)
      (λ k a. elim (has-append_cases Q (l ∷ []) k a) [
        | inl b ↦ has-tail l k P (there Q P h.same k b)
        | inr b ↦ elim (has-cases l k [] b) [ inl e ↦ subst (λ x. has (l ∷ P) x ≡ true) (sym e) (has-head l P) | inr none ↦ absurd (cc) ]
      ])
      (λ k a. elim (has-cases l k P a) [
        | inl e ↦ has-append_right Q (l ∷ []) k (subst (λ x. has (l ∷ []) x ≡ true) (sym e) (has-head l []))
        | inr b ↦ has-append_left Q (l ∷ []) k (back Q P h.same k b)
      ]);
  distinct = distinct-more P l h.distinct free;
}

pub cube-push : (Q P : List Literal) (i : ℕ) (l : Literal) → IsCube Q → i < length Q → l ≡ get_or Q i l → IsHolding (take i Q) P → IsHolding (take (i + 1) Q) (l ∷ P)
cube-push Q P i l cube less at h =
    subst (λ c. IsHolding c (l ∷ P)) (ap (λ k. take i Q ++ k ∷ []) at ∙ sym (take_more Q i l less)) (IsHolding-more (take i Q) P l (cube-free Q P i l cube less at h) h)

pub cube-whole : (Q P : List Literal) (i : ℕ) → length Q ≤ i → IsHolding (take i Q) P → IsHolding Q P
cube-whole Q P i past h = subst (λ c. IsHolding c P) (take_all i Q past) h

-- the negations of a clause's literals beside a cube's: what is held is the negations of the
-- clause and the cube's own negations
abbrev pub Denies : Clause → List Literal → List Literal → Type 0
Denies c Q P = IsHolding (negations (c ++ negations Q)) P

negations-twice : (Q : List Literal) → negations (negations Q) ≡ Q
negations-twice [] = refl
negations-twice (q ∷ Q) = (λ i. negated-negated q i ∷ negations-twice Q i)

pub Denies-nothing : (Q P : List Literal) → IsHolding Q P → Denies [] Q P
Denies-nothing Q P h = subst (λ c. IsHolding c P) (sym (negations-twice Q)) h

-- of a clause with one literal more
in-more : (c : Clause) (Q : List Literal) (l k : Literal) → has (negations ((c ++ l ∷ []) ++ negations Q)) k ≡ true → (k ≡ negated l) ⊎ (has (negations (c ++ negations Q)) k ≡ true)
in-more c Q l k a = elim (has-append_cases (c ++ l ∷ []) (negations Q) (negated k) (has-from_negations ((c ++ l ∷ []) ++ negations Q) k a)) [
  | inl b ↦ elim (has-append_cases c (l ∷ []) (negated k) b) [
    | inl d ↦ inr (into k (has-append_left c (negations Q) (negated k) d))
    | inr d ↦ elim (has-cases l (negated k) [] d) [ inl e ↦ inl (sym (negated-negated k) ∙ ap negated e) | inr none ↦ absurd (cc) ]
  ]
  | inr b ↦ inr (into k (has-append_right c (negations Q) (negated k) b))
]
  where
    into : (k : Literal) → has (c ++ negations Q) (negated k) ≡ true → has (negations (c ++ negations Q)) k ≡ true
    into k b = subst (λ x. has (negations (c ++ negations Q)) x ≡ true) (negated-negated k) (has-negations (c ++ negations Q) (negated k) b)

from-less : (c : Clause) (Q : List Literal) (l k : Literal) → has (negations (c ++ negations Q)) k ≡ true → has (negations ((c ++ l ∷ []) ++ negations Q)) k ≡ true
from-less c Q l k a =
    subst (λ x. has (negations ((c ++ l ∷ []) ++ negations Q)) x ≡ true) (negated-negated k)
    (has-negations ((c ++ l ∷ []) ++ negations Q) (negated k)
    (elim (has-append_cases c (negations Q) (negated k) (has-from_negations (c ++ negations Q) k a)) [
      | inl b ↦ has-append_left (c ++ l ∷ []) (negations Q) (negated k) (has-append_left c (l ∷ []) (negated k) b)
      | inr b ↦ has-append_right (c ++ l ∷ []) (negations Q) (negated k) b
    ]))

last-denied : (c : Clause) (Q : List Literal) (l : Literal) → has (negations ((c ++ l ∷ []) ++ negations Q)) (negated l) ≡ true
last-denied c Q l = has-negations ((c ++ l ∷ []) ++ negations Q) l (has-append_left (c ++ l ∷ []) (negations Q) l (has-append_right c (l ∷ []) l (has-head l [])))

Denies-push : (c : Clause) (Q P : List Literal) (l : Literal) → has_var P l.var ≡ false → Denies c Q P → Denies (c ++ l ∷ []) Q (negated l ∷ P)
Denies-push c Q P l free h = record {
  same = AreSame-by (negations ((c ++ l ∷ []) ++ negations Q)) (negated l ∷ P)
      (λ k a. elim (in-more c Q l k a) [
        | inl e ↦ subst (λ x. has (negated l ∷ P) x ≡ true) (sym e) (has-head (negated l) P)
        | inr b ↦ has-tail (negated l) k P (there (negations (c ++ negations Q)) P h.same k b)
      ])
      (λ k a. elim (has-cases (negated l) k P a) [
        | inl e ↦ subst (λ x. has (negations ((c ++ l ∷ []) ++ negations Q)) x ≡ true) (sym e) (last-denied c Q l)
        | inr b ↦ from-less c Q l k (back (negations (c ++ negations Q)) P h.same k b)
      ]);
  distinct = distinct-more P (negated l) h.distinct free;
}

Denies-held : (c : Clause) (Q P : List Literal) (l : Literal) → has P (negated l) ≡ true → Denies c Q P → Denies (c ++ l ∷ []) Q P
Denies-held c Q P l held h = record {
  same = AreSame-by (negations ((c ++ l ∷ []) ++ negations Q)) P
      (λ k a. elim (in-more c Q l k a) [
        | inl e ↦ subst (λ x. has P x ≡ true) (sym e) held
        | inr b ↦ there (negations (c ++ negations Q)) P h.same k b
      ])
      (λ k a. from-less c Q l k (back (negations (c ++ negations Q)) P h.same k a));
  distinct = h.distinct;
}

-- the steps of the walk; l is the literal at the place i
next : (c : Clause) (Q P : List Literal) (i : ℕ) (l : Literal) → i < length c → l ≡ get_or c i l → Denies (take i c ++ l ∷ []) Q P → Denies (take (i + 1) c) Q P
next c Q P i l less at h = subst (λ d. Denies d Q P) (ap (λ k. take i c ++ k ∷ []) at ∙ sym (take_more c i l less)) h

pub deny-push : (c : Clause) (Q P : List Literal) (i : ℕ) (l : Literal) → i < length c → l ≡ get_or c i l → has_var P l.var ≡ false → Denies (take i c) Q P
    → Denies (take (i + 1) c) Q (negated l ∷ P)
deny-push c Q P i l less at free h = next c Q (negated l ∷ P) i l less at (Denies-push (take i c) Q P l free h)

pub deny-held : (c : Clause) (Q P : List Literal) (i : ℕ) (l : Literal) → i < length c → l ≡ get_or c i l → has P (negated l) ≡ true → Denies (take i c) Q P
    → Denies (take (i + 1) c) Q P
deny-held c Q P i l less at held h = next c Q P i l less at (Denies-held (take i c) Q P l held h)

pub deny-whole : (c : Clause) (Q P : List Literal) (i : ℕ) → length c ≤ i → Denies (take i c) Q P → Denies c Q P
deny-whole c Q P i past h = subst (λ d. Denies d Q P) (take_all i c past) h

-- a literal of the clause that is held true: its negation is one of the clause's, or of the cube's
pub signs-held : (c : Clause) (Q P : List Literal) (i : ℕ) (l : Literal) → has c l ≡ true → ((k : Literal) → has (take i c) k ≡ true → has c k ≡ true) → has P l ≡ true
    → Denies (take i c) Q P → has_both_signs (c ++ negations Q) ≡ true
signs-held c Q P i l a within held h =
    both-signs (c ++ negations Q) l (has-append_left c (negations Q) l a)
    (elim (has-append_cases (take i c) (negations Q) (negated l) (has-from_negations (take i c ++ negations Q) l (back (negations (take i c ++ negations Q)) P h.same l held))) [
      | inl b ↦ has-append_left c (negations Q) (negated l) (within (negated l) b)
      | inr b ↦ has-append_right c (negations Q) (negated l) b
    ])

-- where all are held, no variable stands in both signs
pub signs-none : (c : Clause) (Q P : List Literal) → Denies c Q P → has_both_signs (c ++ negations Q) ≡ false
signs-none c Q P h = has_both_signs-none (c ++ negations Q) (λ l a b. true_false (has P (negated l)) (one l a)
    (consistent P l h.distinct (subst (λ k. has P k ≡ true) (negated-negated l) (one (negated l) b))))
  where
    one : (l : Literal) → has (c ++ negations Q) l ≡ true → has P (negated l) ≡ true
    one l a = there (negations (c ++ negations Q)) P h.same (negated l) (has-negations (c ++ negations Q) l a)
