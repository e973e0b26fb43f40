-- The variables 1 to V, and what stands at the place of each in a list by variables.
use Rattle.std.proofs.Common.{◌≡◌, ℕ, zero, suc, ◌+◌, ◌-◌, ◌<◌, ◌≤◌, Bool, true, false, ◌||◌, nat_eq, eq-eqb, eqb-true, cond, List, [], ◌∷◌, ◌++◌, map, length, get_or, refl, ap, sym, ◌∙◌, inl, inr, ◌⊎◌, arith}
use Rattle.std.proofs.lemmas.Bool.{cases_eq}
use Rattle.std.specs.List.{list_any, count_by}
use Rattle.std.proofs.lemmas.List.{map-append}
use Rattle.std.proofs.lemmas.List.Folds.{list_any-append}
use Rattle.std.proofs.lemmas.List.Sums.{sum_by-append, sum_by-cons}
use Rattle.theory.specs.Literals.{IsVariable}
use Rattle.theory.specs.Trails.{variables}
use Rattle.theory.proofs.literals.LiteralLemmas.{or-left, or-right}
use Rattle.theory.proofs.literals.LiteralSets.{false_unless, or-false_left, or-false_right}
use Rattle.theory.proofs.searching.ModelLemmas.{length-variables}
use Rattle.theory.proofs.searching.BestVariables.{in-variables}

-- what stands at the place of a variable
pub at-variable : {X : Type 0} (f : ℕ → X) (V v : ℕ) (d : X) → IsVariable V v → get_or (map f (variables V)) (v - 1) d ≡ f v
at-variable f zero v d h = absurd (let low = h.0 in let high = h.1 in omega arith)
at-variable f (suc V) v d h = ap (λ (r : List _). get_or r (v - 1) d) (map-append f (variables V) (suc V ∷ [])) ∙ go (cases_eq v (suc V)) (at-variable f V v d)
  where
    left : {X : Type 0} (xs ys : List X) (i : ℕ) (d : X) → i < length xs → get_or (xs ++ ys) i d ≡ get_or xs i d
    left [] ys i d h = absurd (omega arith)
    left (x ∷ xs) ys zero d h = refl
    left (x ∷ xs) ys (suc i) d h = left xs ys i d (omega arith)

    end : {X : Type 0} (xs : List X) (y d : X) (i : ℕ) → i ≡ length xs → get_or (xs ++ y ∷ []) i d ≡ y
    end [] y d i e = rw e refl
    end (x ∷ xs) y d i e = rw e (end xs y d (length xs) refl)

    many : length (map f (variables V)) ≡ V
    many = same (variables V) ∙ length-variables V
      where
        same : (xs : List ℕ) → length (map f xs) ≡ length xs
        same [] = refl
        same (x ∷ xs) = ap suc (same xs)

    go : (v ≡ suc V) ⊎ (v ≡ suc V → ⊥) → (IsVariable V v → get_or (map f (variables V)) (v - 1) d ≡ f v) → get_or (map f (variables V) ++ f (suc V) ∷ []) (v - 1) d ≡ f v
    go (inl e) more = end (map f (variables V)) (f (suc V)) d (v - 1) (omega (arith, e, many)) ∙ ap f (sym e)
    go (inr other) more =
        let low = h.0 in
        let high = h.1 in
        let less : v ≤ V = omega (arith, other) in
        left (map f (variables V)) (f (suc V) ∷ []) (v - 1) d (omega (arith, many)) ∙ more (low, less)

pub length-mapped : {X : Type 0} (f : ℕ → X) (V : ℕ) → length (map f (variables V)) ≡ V
length-mapped f V = same (variables V) ∙ length-variables V
  where
    same : (xs : List ℕ) → length (map f xs) ≡ length xs
    same [] = refl
    same (x ∷ xs) = ap suc (same xs)

-- each of them stands there, once
pub variables-has : (V v : ℕ) → IsVariable V v → list_any (nat_eq v) (variables V) ≡ true
variables-has zero v h = absurd (let low = h.0 in let high = h.1 in omega arith)
variables-has (suc V) v h = list_any-append (nat_eq v) (variables V) (suc V ∷ []) ∙ go (cases_eq v (suc V)) (variables-has V v)
  where
    go : (v ≡ suc V) ⊎ (v ≡ suc V → ⊥) → (IsVariable V v → list_any (nat_eq v) (variables V) ≡ true) → list_any (nat_eq v) (variables V) || (nat_eq v (suc V) || false) ≡ true
    go (inl e) more = or-right (list_any (nat_eq v) (variables V)) (nat_eq v (suc V) || false) (or-left (nat_eq v (suc V)) false (eq-eqb v (suc V) e))
    go (inr other) more = let low = h.0 in let high = h.1 in or-left (list_any (nat_eq v) (variables V)) (nat_eq v (suc V) || false) (more (low, omega (arith, high, other)))

count-none : (v : ℕ) (xs : List ℕ) → list_any (nat_eq v) xs ≡ false → count_by (nat_eq v) xs ≡ 0
count-none v [] h = refl
count-none v (x ∷ xs) h =
    let one : count_by (nat_eq v) (x ∷ xs) ≡ cond false 1 0 + count_by (nat_eq v) xs
    = sum_by-cons (λ y. cond (nat_eq v y) 1 0) x xs ∙ ap (λ b. cond b 1 0 + count_by (nat_eq v) xs) (or-false_left (nat_eq v x) (list_any (nat_eq v) xs) h) in
    let more = count-none v xs (or-false_right (nat_eq v x) (list_any (nat_eq v) xs) h) in
    omega (arith, one, more)

pub variables-once : (V v : ℕ) → count_by (nat_eq v) (variables V) ≤ 1
variables-once zero v = omega arith
variables-once (suc V) v = go (nat_eq v (suc V)) refl (variables-once V v)
  where
    both : count_by (nat_eq v) (variables (suc V)) ≡ count_by (nat_eq v) (variables V) + (cond (nat_eq v (suc V)) 1 0 + 0)
    both = sum_by-append (λ y. cond (nat_eq v y) 1 0) (variables V) (suc V ∷ []) ∙ ap (λ n. count_by (nat_eq v) (variables V) + n) (sum_by-cons (λ y. cond (nat_eq v y) 1 0) (suc V) [])

    none : nat_eq v (suc V) ≡ true → count_by (nat_eq v) (variables V) ≡ 0
    none e = count-none v (variables V) (false_unless (list_any (nat_eq v) (variables V)) (λ t. let h = in-variables V v t in let most = h.1 in let is = eqb-true v (suc V) e in omega (arith, most, is)))

    go : (b : Bool) → nat_eq v (suc V) ≡ b → count_by (nat_eq v) (variables V) ≤ 1 → count_by (nat_eq v) (variables (suc V)) ≤ 1
    go true e one = let n = none e in let w = both ∙ ap (λ b. count_by (nat_eq v) (variables V) + (cond b 1 0 + 0)) e in omega (arith, n, w)
    go false e one = let w = both ∙ ap (λ b. count_by (nat_eq v) (variables V) + (cond b 1 0 + 0)) e in omega (arith, w, one)
