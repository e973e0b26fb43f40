-- The literals of a clause, each once, as its literals come.
use Rattle.std.proofs.Common.{◌≡◌, ℕ, ◌+◌, ◌<◌, ◌≤◌, Bool, true, false, not, List, [], ◌∷◌, ◌++◌, length, take, get_or, refl, ap, sym, subst, ◌∙◌, inl, inr, append-nil, cond}
use Rattle.std.proofs.lemmas.List.{take_more, take_all}
use Rattle.theory.specs.Literals.{Literal, Clause, same, has, has_var, has_both_signs, negated, without, are_distinct}
use Rattle.theory.proofs.literals.LiteralLemmas.{same-refl}
use Rattle.theory.proofs.literals.LiteralSets.{true_false, not-false, and-true, or-false_left, or-false_right, false_unless, same-other, other-same, has-head, has-equal, has-tail, has-cases, has-append_left, has-append_right, has-append_cases, has_var-has, has_both_signs-none}
use Rattle.theory.proofs.literals.ClauseWalks.{consistent}
use Rattle.tidying.specs.Tidied.{once}

without-append : (c d : Clause) (k : Literal) → without (c ++ d) k ≡ without c k ++ without d k
without-append [] d k = refl
without-append (l ∷ c) d k = go (not (same k l)) (without-append c d k)
  where
    go : (b : Bool) → without (c ++ d) k ≡ without c k ++ without d k → cond b (l ∷ without (c ++ d) k) (without (c ++ d) k) ≡ cond b (l ∷ without c k) (without c k) ++ without d k
    go true h = ap (λ x. l ∷ x) h
    go false h = h

kept : (k l : Literal) → same k l ≡ false → without (l ∷ []) k ≡ l ∷ []
kept k l h = ap (λ b. cond (not b) (l ∷ []) []) h

gone : (k l : Literal) → same k l ≡ true → without (l ∷ []) k ≡ []
gone k l h = ap (λ b. cond (not b) (l ∷ []) []) h

-- one literal more, which is new or not
once-new : (p : Clause) (l : Literal) → has p l ≡ false → once (p ++ l ∷ []) ≡ once p ++ l ∷ []
once-new [] l h = refl
once-new (k ∷ p) l h =
    let other : same k l ≡ false = same-other k l (λ e. other-same l k (or-false_left (same l k) (has p l) h) (sym e)) in
    ap (λ x. k ∷ without x k) (once-new p l (or-false_right (same l k) (has p l) h)) ∙ ap (λ x. k ∷ x) (without-append (once p) (l ∷ []) k ∙ ap (λ x. without (once p) k ++ x) (kept k l other))

once-old : (p : Clause) (l : Literal) → has p l ≡ true → once (p ++ l ∷ []) ≡ once p
once-old [] l h = absurd (cc)
once-old (k ∷ p) l h = go (has p l) refl (once-old p l)
  where
    go : (b : Bool) → has p l ≡ b → (has p l ≡ true → once (p ++ l ∷ []) ≡ once p) → once (k ∷ (p ++ l ∷ [])) ≡ once (k ∷ p)
    go true e older = ap (λ x. k ∷ without x k) (older e)
    go false e older =
        let is : l ≡ k = elim (has-cases k l p h) [ inl q ↦ q | inr q ↦ true_false (has p l) q e ] in
        ap (λ x. k ∷ without x k) (once-new p l e) ∙ ap (λ x. k ∷ x) (without-append (once p) (l ∷ []) k ∙ (ap (λ x. without (once p) k ++ x) (gone k l (ap (same k) is ∙ same-refl k)) ∙ append-nil (without (once p) k)))

-- the literals p are held true, and have come once each
pub record IsOnce (p : Clause) (P lits : List Literal) : Type 0 where
  pub are : lits ≡ once p
  pub held : (k : Literal) → has p k ≡ true → has P k ≡ true
  pub only : (k : Literal) → has P k ≡ true → has p k ≡ true
  pub distinct : are_distinct P ≡ true

pub begun : (P lits : List Literal) → P ≡ [] → lits ≡ [] → IsOnce [] P lits
begun P lits none empty = record {
  are = empty;
  held = λ k a. absurd (cc);
  only = λ k a. let b : has [] k ≡ true = ap (λ x. has x k) (sym none) ∙ a in absurd (cc);
  distinct = ap are_distinct none;
}

one : (k l : Literal) → has (l ∷ []) k ≡ true → k ≡ l
one k l h = elim (has-cases l k [] h) [ inl e ↦ e | inr e ↦ absurd (cc) ]

-- a literal that came before
pub repeated : (p : Clause) (P lits : List Literal) (l : Literal) → has P l ≡ true → IsOnce p P lits → IsOnce (p ++ l ∷ []) P lits
repeated p P lits l there h = record {
  are = h.are ∙ sym (once-old p l (h.only l there));
  held = λ k a. elim (has-append_cases p (l ∷ []) k a) [ inl b ↦ h.held k b | inr b ↦ subst (λ x. has P x ≡ true) (sym (one k l b)) there ];
  only = λ k a. has-append_left p (l ∷ []) k (h.only k a);
  distinct = h.distinct;
}

-- one of another variable
pub put : (p : Clause) (P lits : List Literal) (l : Literal) → has_var P l.var ≡ false → IsOnce p P lits → IsOnce (p ++ l ∷ []) (l ∷ P) (lits ++ l ∷ [])
put p P lits l free h =
    let absent : has P l ≡ false = false_unless (has P l) (λ t. true_false (has_var P l.var) (has_var-has P l t) free) in
    let new : has p l ≡ false = false_unless (has p l) (λ t. true_false (has P l) (h.held l t) absent) in
    record {
      are = ap (λ x. x ++ l ∷ []) h.are ∙ sym (once-new p l new);
      held = λ k a. elim (has-append_cases p (l ∷ []) k a) [ inl b ↦ has-tail l k P (h.held k b) | inr b ↦ has-equal l k P (one k l b) ];
      only = λ k a. elim (has-cases l k P a) [
        | inl e ↦ subst (λ x. has (p ++ l ∷ []) x ≡ true) (sym e) (has-append_right p (l ∷ []) l (has-head l []))
        | inr b ↦ has-append_left p (l ∷ []) k (h.only k b)
      ];
      distinct = and-true (not (has_var P l.var)) (are_distinct P) (not-false (has_var P l.var) free) h.distinct;
    }

-- no variable came in both signs
pub no_signs : (c : Clause) (P lits : List Literal) → IsOnce c P lits → has_both_signs c ≡ false
no_signs c P lits h = has_both_signs-none c (λ l a b. true_false (has P (negated l)) (h.held (negated l) b) (consistent P l h.distinct (h.held l a)))

-- the steps of the walk; l is the literal at the place i
pub next : (c : Clause) (P lits : List Literal) (i : ℕ) (l : Literal) → i < length c → l ≡ get_or c i l → IsOnce (take i c ++ l ∷ []) P lits → IsOnce (take (i + 1) c) P lits
next c P lits i l less e h = subst (λ x. IsOnce x P lits) (ap (λ k. take i c ++ k ∷ []) e ∙ sym (take_more c i l less)) h

pub whole : (c : Clause) (P lits : List Literal) (i : ℕ) → length c ≤ i → IsOnce (take i c) P lits → IsOnce c P lits
whole c P lits i past h = subst (λ x. IsOnce x P lits) (take_all i c past) h
