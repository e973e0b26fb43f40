-- What hints come to: the last one is a false clause, those before it are unit in turn.
use Rattle.std.proofs.Common.{◌≡◌, ℕ, Bool, true, false, not, ◌||◌, List, [], ◌∷◌, map, refl, ap, sym, ◌∙◌, inl, inr, find, cond, Option, Some, None}
use Rattle.std.specs.List.{list_all}
use Rattle.theory.specs.Literals.{Literal, Clause, negated, same, has, has_var}
use Rattle.theory.specs.Status.{is_false, is_unit_in, others_false, unit_literal}
use Rattle.theory.specs.Checking.{Numbered, clause_of, Hint, missing, false_clause, not_unit, unit_in, hint, take_hints, Taken, conflicts, fails, no_such_clause, hint_not_unit, end_at_conflict}
use Rattle.theory.proofs.literals.LiteralLemmas.{and-left, or-left, or-right, true_or_false, not_true}
use Rattle.theory.proofs.literals.LiteralSets.{Refutes, true_false, false_unless, and-true, one_or_other, has-head, has-tail, has-cases, has_var-has, Refutes-from_is_false, is_false-from_Refutes}

-- what hints say
pub hint-false : (P : List Literal) (d : Clause) → Refutes P d → hint P (Some d) ≡ false_clause
hint-false P d h = let clash : is_false P d ≡ true = is_false-from_Refutes P d h in rw clash refl

find-only : (p : Literal → Bool) (c : Clause) (l : Literal) → has c l ≡ true → p l ≡ true → ((k : Literal) → has c k ≡ true → p k ≡ true → k ≡ l) → find p c ≡ Some l
find-only p [] l h t only = absurd (cc)
find-only p (k ∷ c) l h t only = go (p k) refl (λ r. find-only p c l r t (λ j a. only j (has-tail k j c a)))
  where
    go : (b : Bool) → p k ≡ b → (has c l ≡ true → find p c ≡ Some l) → cond b (Some k) (find p c) ≡ Some l
    go true e more = ap Some (only k (has-head k c) e)
    go false e more = elim (has-cases k l c h) [
      | inl i ↦ true_false (p k) (ap p (sym i) ∙ t) e
      | inr r ↦ more r
    ]

pub list_all-from : (p : Literal → Bool) (c : Clause) → ((l : Literal) → has c l ≡ true → p l ≡ true) → list_all p c ≡ true
list_all-from p [] h = refl
list_all-from p (k ∷ c) h = and-true (p k) (list_all p c) (h k (has-head k c)) (list_all-from p c (λ l a. h l (has-tail k l c a)))

-- a clause with one free literal is unit in it, if the others are false
pub unit_literal-only : (P : List Literal) (d : Clause) (l : Literal) → has d l ≡ true → has_var P l.var ≡ false
    → ((k : Literal) → has d k ≡ true → same l k ≡ false → has P (negated k) ≡ true) → unit_literal P d ≡ Some l
unit_literal-only P d l there free others = find-only (is_unit_in P d) d l there unit only
  where
    one : (k : Literal) → has d k ≡ true → same l k || has P (negated k) ≡ true
    one k a = elim (true_or_false (same l k)) [ inl s ↦ or-left (same l k) (has P (negated k)) s | inr s ↦ or-right (same l k) (has P (negated k)) (others k a s) ]

    unit : is_unit_in P d l ≡ true
    unit = and-true (not (has_var P l.var)) (others_false P d l) (ap not free) (list_all-from (λ k. same l k || has P (negated k)) d one)

    only : (k : Literal) → has d k ≡ true → is_unit_in P d k ≡ true → k ≡ l
    only k a u = elim (one_or_other l k) [
      | inl e ↦ sym e
      | inr e ↦ true_false (has_var P k.var) (has_var-has P (negated k) (others k a e)) (not_true (has_var P k.var) (and-left (not (has_var P k.var)) (others_false P d k) u))
    ]

pub hint-unit : (P : List Literal) (d : Clause) (l : Literal) → has d l ≡ true → has_var P l.var ≡ false
    → ((k : Literal) → has d k ≡ true → same l k ≡ false → has P (negated k) ≡ true) → hint P (Some d) ≡ unit_in l
hint-unit P d l there free others =
    let open_yet : is_false P d ≡ false = false_unless (is_false P d) (λ t. true_false (has_var P l.var) (has_var-has P (negated l) (Refutes-from_is_false P d t l there)) free) in
    let found : unit_literal P d ≡ Some l = unit_literal-only P d l there free others in
    rw (open_yet, found) refl

unfoldable pub take_on : Numbered → List Literal → List ℕ → Hint → Taken
take_on there P ns r = elim r [
  | missing ↦ fails no_such_clause
  | false_clause ↦ end_at_conflict ns
  | not_unit ↦ fails hint_not_unit
  | unit_in l ↦ take_hints there (l ∷ P) ns
]

-- the last hint is a false clause
pub take_hints-false : (there : Numbered) (P : List Literal) (n : ℕ) → hint P (clause_of there n) ≡ false_clause → take_hints there P (n ∷ []) ≡ conflicts
unfolding take_on
take_hints-false there P n h = ap (take_on there P []) h

-- the first hint is unit
pub take_hints-unit : (there : Numbered) (P : List Literal) (n : ℕ) (ns : List ℕ) (l : Literal) (r : Taken) → hint P (clause_of there n) ≡ unit_in l
    → take_hints there (l ∷ P) ns ≡ r → take_hints there P (n ∷ ns) ≡ r
unfolding take_on
take_hints-unit there P n ns l r h more = ap (take_on there P ns) h ∙ more

-- the same clauses under other numbers
pub take_hints-moved : (there here : Numbered) (f : ℕ → ℕ) (P : List Literal) (ns : List ℕ) → ((n : ℕ) (d : Clause) → clause_of there n ≡ Some d → clause_of here (f n) ≡ Some d)
    → take_hints there P ns ≡ conflicts → take_hints here P (map f ns) ≡ conflicts
unfolding take_on
take_hints-moved there here f P [] moved h = absurd (cc)
take_hints-moved there here f P (n ∷ ns) moved h = first (clause_of there n) refl h (λ l. take_hints-moved there here f (l ∷ P) ns moved)
  where
    ended : (ns : List ℕ) → end_at_conflict ns ≡ conflicts → end_at_conflict (map f ns) ≡ conflicts
    ended [] k = refl
    ended (m ∷ ms) k = absurd (cc)

    second : (r : Hint) → take_on there P ns r ≡ conflicts → ((l : Literal) → take_hints there (l ∷ P) ns ≡ conflicts → take_hints here (l ∷ P) (map f ns) ≡ conflicts)
        → take_on here P (map f ns) r ≡ conflicts
    second missing k more = absurd (cc)
    second false_clause k more = ended ns k
    second not_unit k more = absurd (cc)
    second (unit_in l) k more = more l k

    first : (o : Option Clause) → clause_of there n ≡ o → take_on there P ns (hint P o) ≡ conflicts
        → ((l : Literal) → take_hints there (l ∷ P) ns ≡ conflicts → take_hints here (l ∷ P) (map f ns) ≡ conflicts) → take_hints here P (f n ∷ map f ns) ≡ conflicts
    first None e k more = absurd (cc)
    first (Some d) e k more = ap (λ o. take_on here P (map f ns) (hint P o)) (moved n d e) ∙ second (hint P (Some d)) k more
