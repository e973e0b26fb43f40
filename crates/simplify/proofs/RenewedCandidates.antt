-- The candidates once variables wait with their weights anew.
use Rattle.std.proofs.Common.{◌≡◌, ℕ, ◌+◌, ◌-◌, ◌<◌, ◌≤◌, nat_eq, eqb-true, eq-eqb, Bool, true, false, ◌||◌, List, [], map, length, take, slice_index, slice_set, slice_index_or, refl, ap, sym, subst, ◌∙◌, arith, if◌then◌else◌}
use Rattle.std.specs.List.{list_any}
use Rattle.std.proofs.lemmas.List.{length-set, get_or-set_same, get_or-set_other, ext_get_or}
use Rattle.std.proofs.lemmas.List.Folds.{list_any_more}
use Rattle.theory.specs.Literals.{IsVariable}
use Rattle.theory.specs.Truth.{value}
use Rattle.theory.specs.Trails.{variables}
use Rattle.theory.proofs.searching.MappedVariables.{at-variable, length-mapped}
use Rattle.simplify.specs.Entries.{Entries, weight_in}
use Rattle.simplify.specs.Candidates.{Waiting, weight_of}
use Rattle.simplify.specs.Tried.{IsRenewed}

-- the value at a variable, where that of one was written
pub set-at : {X : Type 0} (xs : List X) (u v : ℕ) (y d : X) → IsVariable (length xs) u → 1 ≤ v → slice_index_or (slice_set xs (u - 1) y) (v - 1) d ≡ (if nat_eq v u then y else slice_index_or xs (v - 1) d)
set-at {X} xs u v y d within low = go (nat_eq v u) refl
  where
    go : (b : Bool) → nat_eq v u ≡ b → slice_index_or (slice_set xs (u - 1) y) (v - 1) d ≡ (if b then y else slice_index_or xs (v - 1) d)
    go true e =
        let same = eqb-true v u e in
        ap (λ k. slice_index_or (slice_set xs (u - 1) y) (k - 1) d) same ∙ get_or-set_same xs (u - 1) y d (let a = within.0 in let b = within.1 in omega arith)
    go false e = get_or-set_other xs (u - 1) (v - 1) y d (λ q. apart q)
      where
        apart : v - 1 ≡ u - 1 → ⊥
        apart q = let a = within.0 in let same : v ≡ u = omega arith in absurd (let t : nat_eq v u ≡ true = ap (λ k. nat_eq k u) same ∙ eq-eqb u u refl in cc)

pub renewed-none : (V : ℕ) (K : Entries) (q : Waiting) → length q.waits ≡ V → length q.weights ≡ V → IsRenewed V K [] q q
renewed-none V K q h k = record { waits_long = h; weights_long = k; weights = λ v w. refl; waits = λ v w. go (value q.waits v) }
  where
    go : (b : Bool) → b ≡ (b || false)
    go true = refl
    go false = refl

pub renewed-next : (V : ℕ) (K : Entries) (vs : List ℕ) (i : ℕ) (old q : Waiting) → i < length vs → IsVariable V (slice_index vs i) → IsRenewed V K (take i vs) old q
    → IsRenewed V K (take (i + 1) vs) old (record { weights = slice_set q.weights (slice_index vs i - 1) (weight_in K (slice_index vs i)); waits = slice_set q.waits (slice_index vs i - 1) true })
renewed-next V K vs i old q below within h = record {
  waits_long = length-set q.waits (u - 1) true ∙ h.waits_long;
  weights_long = length-set q.weights (u - 1) (weight_in K u) ∙ h.weights_long;
  weights = λ v w. (set-at q.weights u v (weight_in K u) 0 (subst (λ n. IsVariable n u) (sym h.weights_long) within) w.0
      ∙ (weighs v (nat_eq v u) refl w ∙ ap (λ b. if b then weight_in K v else weight_of old.weights v) (sym (more v))));
  waits = λ v w. (set-at q.waits u v true false (subst (λ n. IsVariable n u) (sym h.waits_long) within) w.0
      ∙ (waits_at v (nat_eq v u) w ∙ ap (λ b. value old.waits v || b) (sym (more v))));
}
  where
    u : ℕ
    u = slice_index vs i

    more : (v : ℕ) → list_any (nat_eq v) (take (i + 1) vs) ≡ (list_any (nat_eq v) (take i vs) || nat_eq v u)
    more v = list_any_more (nat_eq v) vs i 0 below

    weighs : (v : ℕ) (b : Bool) → nat_eq v u ≡ b → IsVariable V v → (if b then weight_in K u else weight_of q.weights v) ≡ (if list_any (nat_eq v) (take i vs) || b then weight_in K v else weight_of old.weights v)
    weighs v true e w = ap (weight_in K) (sym (eqb-true v u e)) ∙ ap (λ c. if c then weight_in K v else weight_of old.weights v) (sym (or-yes (list_any (nat_eq v) (take i vs))))
      where
        or-yes : (a : Bool) → (a || true) ≡ true
        or-yes true = refl
        or-yes false = refl
    weighs v false e w = h.weights v w ∙ ap (λ c. if c then weight_in K v else weight_of old.weights v) (or-no (list_any (nat_eq v) (take i vs)))
      where
        or-no : (a : Bool) → a ≡ (a || false)
        or-no true = refl
        or-no false = refl

    waits_at : (v : ℕ) (b : Bool) → IsVariable V v → (if b then true else value q.waits v) ≡ (value old.waits v || (list_any (nat_eq v) (take i vs) || b))
    waits_at v true w = go (value old.waits v) (list_any (nat_eq v) (take i vs))
      where
        go : (a c : Bool) → true ≡ (a || (c || true))
        go true c = refl
        go false true = refl
        go false false = refl
    waits_at v false w = h.waits v w ∙ go (value old.waits v) (list_any (nat_eq v) (take i vs))
      where
        go : (a c : Bool) → (a || c) ≡ (a || (c || false))
        go true c = refl
        go false true = refl
        go false false = refl

-- a list that has the values of a function is its list
pub from-values : {X : Type 0} (f : ℕ → X) (V : ℕ) (xs : List X) (d : X) → length xs ≡ V → ((v : ℕ) → IsVariable V v → slice_index_or xs (v - 1) d ≡ f v) → xs ≡ map f (variables V)
from-values f V xs d long h = ext_get_or d xs (map f (variables V)) (long ∙ sym (length-mapped f V)) (λ i below. at i below)
  where
    at : (i : ℕ) → i < length xs → slice_index_or xs i d ≡ slice_index_or (map f (variables V)) i d
    at i below =
        let within : IsVariable V (i + 1) = (omega arith, omega arith) in
        let place : (i + 1) - 1 ≡ i = omega arith in
        ap (λ k. slice_index_or xs k d) (sym place) ∙ (h (i + 1) within ∙ (sym (at-variable f V (i + 1) d within) ∙ ap (λ k. slice_index_or (map f (variables V)) k d) place))
