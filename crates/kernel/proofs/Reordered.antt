-- What is said of a clause holds of its literals in any order.
use Rattle.std.proofs.Common.{◌≡◌, ℕ, Bool, true, false, List, [], ◌∷◌, refl, ap, sym, subst, ◌∙◌, inl, inr, IsPermutation}
use Rattle.std.specs.List.{list_any}
use Rattle.std.proofs.lemmas.List.Sorted.{list_any-IsPermutation, All-permutation, IsPermutation-sym}
use Rattle.theory.specs.Literals.{Literal, Clause, IsVariable, same, has, negated, has_both_signs}
use Rattle.theory.specs.Truth.{IsOver}
use Rattle.theory.specs.Status.{is_false}
use Rattle.theory.specs.Trails.{Trail}
use Rattle.theory.specs.Propagation.{with_first, last_false}
use Rattle.kernel.specs.Watching.{WasUnit}
use Rattle.kernel.specs.Visiting.{IsLast}
use Rattle.kernel.specs.Placing.{IsLastOf, place_in}
use Rattle.kernel.specs.declared.order.Order.{Order}
use Rattle.kernel.specs.declared.order.Order.TheVariants.{ByNumber, ByPlace}
use Rattle.kernel.proofs.Arranged.{has-permuted}
use Rattle.theory.proofs.literals.LiteralLemmas.{same-refl}
use Rattle.kernel.proofs.LiteralFacts.{true_false, all-member}
use Rattle.kernel.proofs.Walking.{all-from}
use Rattle.kernel.proofs.AtRest.{other-false}
use Rattle.kernel.proofs.LastLiterals.{all-false-but}

pub last_false-permuted : (T : Trail) (c d : Clause) → IsPermutation c d → last_false T c ≡ last_false T d
last_false-permuted [] c d p = refl
last_false-permuted (e ∷ T) c d p = λ i. with_first (has-permuted c d (negated e.lit) p i) (last_false-permuted T c d p i)

pub place-permuted : (o : Order) (T : Trail) (c d : Clause) → IsPermutation c d → place_in o T c ≡ place_in o T d
place-permuted ByNumber T c d p = refl
place-permuted ByPlace T c d p = last_false-permuted T c d p

pub over-permuted : (V : ℕ) (c d : Clause) → IsPermutation c d → IsOver V c → IsOver V d
over-permuted V c d p over = All-permutation (λ (l : Literal). IsVariable V l.var) c d p over

pub both_signs-permuted : (c d : Clause) → IsPermutation c d → has_both_signs c ≡ has_both_signs d
both_signs-permuted c d p =
    ap (λ (f : Literal → Bool). list_any f c) (λ i l. has-permuted c d (negated l) p i)
    ∙ list_any-IsPermutation (λ l. has d (negated l)) c d p

false-one_way : (P : List Literal) (c d : Clause) → IsPermutation c d → is_false P c ≡ true → is_false P d ≡ true
false-one_way P c d p h = all-from (λ l. has P (negated l)) d (λ l a. all-member (λ l. has P (negated l)) c l h (has-permuted c d l p ∙ a))

both : (a b : Bool) → (a ≡ true → b ≡ true) → (b ≡ true → a ≡ true) → a ≡ b
both true b to from = sym (to refl)
both false true to from = from refl
both false false to from = refl

pub false-permuted : (P : List Literal) (c d : Clause) → IsPermutation c d → is_false P c ≡ is_false P d
false-permuted P c d p = both (is_false P c) (is_false P d) (false-one_way P c d p) (false-one_way P d c (IsPermutation-sym c d p))

last-permuted-one_way : (P : List Literal) (c d : Clause) (k : Literal) → IsPermutation c d → IsLast P c k → IsLast P d k
last-permuted-one_way P c d k p last l a ne = last l (has-permuted c d l p ∙ a) ne

pub last-permuted : (P : List Literal) (c d : Clause) (k : Literal) → IsPermutation c d → IsLastOf P d k → IsLastOf P c k
last-permuted P c d k p last = (has-permuted c d k p ∙ last.0, last-permuted-one_way P d c k (IsPermutation-sym c d p) last.1)

pub unit-permuted : (P : List Literal) (c d : Clause) → IsPermutation c d → WasUnit P c → WasUnit P d
unit-permuted P c d p unit = (
  unit.0,
  sym (has-permuted c d unit.0 p) ∙ unit.1,
  all-false-but P d unit.0 (λ l a ne. false_one l (has-permuted c d l p ∙ a) ne),
)
  where
    false_one : (l : Literal) → has c l ≡ true → same unit.0 l ≡ false → has P (negated l) ≡ true
    false_one l a ne = elim (other-false P c unit.0 l unit.2 a) [
      | inl e ↦ absurd (true_false (same unit.0 l) (subst (λ k. same unit.0 k ≡ true) e (same-refl unit.0)) ne)
      | inr h ↦ h
    ]
