-- A cube's literals taken one after the other: none is of a variable of those before it.
use Rattle.std.proofs.Common.{◌≡◌, true, false, not, List, [], ◌∷◌, ◌++◌, refl, ap, sym, subst, ◌∙◌, inl, inr}
use Rattle.theory.specs.Literals.{Literal, has, has_var, are_distinct, IsCube}
use Rattle.theory.proofs.literals.LiteralLemmas.{and-left, and-right, not_true}
use Rattle.theory.proofs.literals.LiteralSets.{true_false, and-true, has-head, has-tail, has-cases, has-append_right, has-append_cases, has_var-has, has_var-none, has_var-append_left}

-- no variable of Q stands in P, and none stands twice in Q
abbrev pub IsDistinctFrom : List Literal → List Literal → Type 0
IsDistinctFrom P [] = Unit {0}
IsDistinctFrom P (l ∷ Q) = (has_var P l.var ≡ false) × IsDistinctFrom (P ++ l ∷ []) Q

are_distinct-from : (P Q : List Literal) → IsDistinctFrom P Q → (are_distinct Q ≡ true) × ((l : Literal) → has Q l ≡ true → has_var P l.var ≡ false)
are_distinct-from P [] h = (refl, λ l a. absurd (cc))
are_distinct-from P (q ∷ Q) h =
    let more = are_distinct-from (P ++ q ∷ []) Q h.1 in (
      and-true (not (has_var Q q.var)) (are_distinct Q) (ap not (has_var-none Q q.var (λ l a e. true_false (has_var (P ++ q ∷ []) l.var)
          (subst (λ v. has_var (P ++ q ∷ []) v ≡ true) (sym e) (has_var-has (P ++ q ∷ []) q (has-append_right P (q ∷ []) q (has-head q [])))) (more.1 l a)))) more.0,
      λ l a. elim (has-cases q l Q a) [
        | inl e ↦ subst (λ (x : Literal). has_var P x.var ≡ false) (sym e) h.0
        | inr r ↦ has_var-append_left P (q ∷ []) l.var (more.1 l r)
      ],
    )

-- such literals are a cube
pub IsCube-from : (Q : List Literal) → IsDistinctFrom [] Q → IsCube Q
IsCube-from Q h = (are_distinct-from [] Q h).0

IsDistinctFrom-distinct : (P Q : List Literal) → are_distinct Q ≡ true → ((l : Literal) → has Q l ≡ true → has_var P l.var ≡ false) → IsDistinctFrom P Q
IsDistinctFrom-distinct P [] d apart = tt
IsDistinctFrom-distinct P (q ∷ Q) d apart = (apart q (has-head q Q), IsDistinctFrom-distinct (P ++ q ∷ []) Q (and-right (not (has_var Q q.var)) (are_distinct Q) d) more)
  where
    alone : has_var Q q.var ≡ false
    alone = not_true (has_var Q q.var) (and-left (not (has_var Q q.var)) (are_distinct Q) d)

    more : (l : Literal) → has Q l ≡ true → has_var (P ++ q ∷ []) l.var ≡ false
    more l a = has_var-none (P ++ q ∷ []) l.var (λ k b v. elim (has-append_cases P (q ∷ []) k b) [
      | inl i ↦ true_false (has_var P l.var) (subst (λ n. has_var P n ≡ true) v (has_var-has P k i)) (apart l (has-tail q l Q a))
      | inr i ↦ elim (has-cases q k [] i) [
        | inl one ↦ true_false (has_var Q q.var) (subst (λ n. has_var Q n ≡ true) (sym v ∙ ap (λ (x : Literal). x.var) one) (has_var-has Q l a)) alone
        | inr none ↦ absurd (cc)
      ]
    ])

-- and a cube's literals are such
pub IsDistinctFrom-cube : (Q : List Literal) → IsCube Q → IsDistinctFrom [] Q
IsDistinctFrom-cube Q d = IsDistinctFrom-distinct [] Q d (λ l a. refl)
