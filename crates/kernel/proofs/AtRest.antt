-- Once each entry of the trail was served: which clauses are false, and which are unit.
use Rattle.std.proofs.Common.{◌≡◌, ℕ, true, false, ◌||◌, List, Option, None, subst, ◌⊎◌, inl, inr}
use Rattle.std.specs.List.{Contains}
use Rattle.theory.specs.Literals.{Literal, Clause, same, has, has_var, has_both_signs, negated}
use Rattle.theory.specs.Status.{is_false, others_false}
use Rattle.theory.proofs.literals.LiteralLemmas.{or-cases, same-eq, same-refl}
use Rattle.kernel.specs.Watching.{IsConsistent, IsPair, apart, first_true, second_true, other_true, both_signs, At, Reached, Good, held, waits, reached, spared}
use Rattle.kernel.specs.declared.watches.watch.Watched.{Watched}
use Rattle.kernel.proofs.Places.{At-one}
use Rattle.kernel.proofs.BothSigns.{both_signs-false, both_signs-unit}
use Rattle.kernel.proofs.LiteralFacts.{true_false, all-member, free-not}

-- a false clause stands at or behind the least one that was found
pub false-reached : (K : List Clause) (P : List Literal) (H : List ℕ) (f : Option ℕ) (c : Clause) (w : Watched) (n : ℕ) → At K n c → IsConsistent P → IsPair c w → is_false P c ≡ true → Good K P P H f w n → Reached f n
false-reached K P H f c w n at ok pair all good = go good
  where
    first_false : has P (negated w.first) ≡ true
    first_false = all-member (λ l. has P (negated l)) c w.first all pair.first_in

    second_false : has P (negated w.second) ≡ true
    second_false = all-member (λ l. has P (negated l)) c w.second all pair.second_in

    go : Good K P P H f w n → Reached f n
    go (held (apart d a b)) = absurd (true_false (has P (negated w.first)) first_false a)
    go (held (first_true t)) = absurd (ok w.first t first_false)
    go (held (second_true t)) = absurd (ok w.second t second_false)
    go (held (other_true d y a m t)) = absurd (ok y t (all-member (λ l. has P (negated l)) c y all (subst (λ (x : Clause). has x y ≡ true) (At-one K n d c a at) m)))
    go (held (both_signs d a b)) = absurd (both_signs-false P c ok (subst (λ (x : Clause). has_both_signs x ≡ true) (At-one K n d c a at) b) all)
    go (waits m (inl a)) = absurd (true_false (has P (negated w.first)) first_false a)
    go (waits m (inr b)) = absurd (true_false (has P (negated w.second)) second_false b)
    go (reached r) = r
    go (spared m r (inl a)) = absurd (true_false (has P (negated w.first)) first_false a)
    go (spared m r (inr b)) = absurd (true_false (has P (negated w.second)) second_false b)

-- a literal of a clause that is unit in y is y or false
pub other-false : (P : List Literal) (c : Clause) (y k : Literal) → others_false P c y ≡ true → has c k ≡ true → (y ≡ k) ⊎ (has P (negated k) ≡ true)
other-false P c y k all m = go (or-cases (same y k) (has P (negated k)) (all-member (λ l. same y l || has P (negated l)) c k all m))
  where
    go : (same y k ≡ true) ⊎ (has P (negated k) ≡ true) → (y ≡ k) ⊎ (has P (negated k) ≡ true)
    go (inl e) = inl (same-eq y k e)
    go (inr e) = inr e

-- a unit clause waits among the units
pub unit-waits : (K : List Clause) (P : List Literal) (H : List ℕ) (c : Clause) (w : Watched) (n : ℕ) (y : Literal) → At K n c → IsConsistent P → IsPair c w → has_var P y.var ≡ false → others_false P c y ≡ true → Good K P P H None w n → Contains H n
unit-waits K P H c w n y at ok pair free all good = go good
  where
    first_is : (y ≡ w.first) ⊎ (has P (negated w.first) ≡ true)
    first_is = other-false P c y w.first all pair.first_in

    second_is : (y ≡ w.second) ⊎ (has P (negated w.second) ≡ true)
    second_is = other-false P c y w.second all pair.second_in

    not_true : (k : Literal) → (y ≡ k) ⊎ (has P (negated k) ≡ true) → has P k ≡ true → ⊥
    not_true k (inl e) t = free-not P y free (rw e t)
    not_true k (inr e) t = ok k t e

    not_apart : (y ≡ w.first) ⊎ (has P (negated w.first) ≡ true) → (y ≡ w.second) ⊎ (has P (negated w.second) ≡ true) → same w.first w.second ≡ false → has P (negated w.first) ≡ false → has P (negated w.second) ≡ false → ⊥
    not_apart (inl e) (inl g) d a b = true_false (same w.first w.second) (rw (← e, ← g) (same-refl y)) d
    not_apart (inl e) (inr g) d a b = true_false (has P (negated w.second)) g b
    not_apart (inr e) g d a b = true_false (has P (negated w.first)) e a

    go : Good K P P H None w n → Contains H n
    go (held (apart d a b)) = absurd (not_apart first_is second_is d a b)
    go (held (first_true t)) = absurd (not_true w.first first_is t)
    go (held (second_true t)) = absurd (not_true w.second second_is t)
    go (held (other_true d x a m t)) = absurd (not_true x (other-false P c y x all (subst (λ (e : Clause). has e x ≡ true) (At-one K n d c a at) m)) t)
    go (held (both_signs d a b)) = absurd (both_signs-unit P c y ok (subst (λ (x : Clause). has_both_signs x ≡ true) (At-one K n d c a at) b) free all)
    go (waits m z) = m
    go (reached r) = absurd r
    go (spared m r z) = absurd r
