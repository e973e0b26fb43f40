-- The numbers of clauses that are forgotten, and the clauses once they are.
use Rattle.std.proofs.Common.{◌≡◌, ℕ, suc, ◌+◌, ◌-◌, ◌<◌, ◌≤◌, true, false, nat_eq, eqb-true, ◌⊎◌, inl, inr, List, [], ◌∷◌, length, get_or, None, All, refl, sym, subst, arith}
use Rattle.std.specs.List.{list_any}
use Rattle.theory.specs.Literals.{Literal, Clause}
use Rattle.theory.specs.Truth.{IsOver}
use Rattle.theory.specs.Status.{is_false}
use Rattle.theory.specs.Propagation.{least_false}
use Rattle.theory.specs.Forgetting.{forget}
use Rattle.theory.proofs.searching.ForgettingNumbers.{forget-nothing, All-forget}
use Rattle.theory.proofs.literals.LiteralLemmas.{or-cases}
use Rattle.kernel.proofs.Places.{At-get}
use Rattle.kernel.proofs.Backtracking.{least_false-each}
use Rattle.kernel.specs.Forgetting.{is_numbered}

-- what is so of each number is so of one that is among them
pub among-all : (P : ℕ → Type 0) (ns : List ℕ) → All P ns → (n : ℕ) → list_any (nat_eq n) ns ≡ true → P n
among-all P [] all n h = absurd (cc)
among-all P (m ∷ ns) all n h = go (or-cases (nat_eq n m) (list_any (nat_eq n) ns) h) (among-all P ns (λ k d inside. all (suc k) d (let z : suc k < length (m ∷ ns) = omega (arith, inside) in z)) n)
  where
    go : (nat_eq n m ≡ true) ⊎ (list_any (nat_eq n) ns ≡ true) → (list_any (nat_eq n) ns ≡ true → P n) → P n
    go (inl e) more = subst P (sym (eqb-true n m e)) (all 0 0 (let z : 0 < length (m ∷ ns) = omega arith in z))
    go (inr e) more = more e

-- numbers of learnt clauses
pub numbered-from : (ns : List ℕ) (first count : ℕ) → All (λ n. (first < n) × (n ≤ count)) ns → (n : ℕ) → is_numbered ns n ≡ true → first ≤ n
numbered-from ns first count all n h = let low = (among-all (λ m. (first < m) × (m ≤ count)) ns all (n + 1) h).0 in omega (arith, low)

-- a clause that is forgotten had a literal, so there is a variable
pub over-forgotten : (V first : ℕ) (P : List Literal) (ns : List ℕ) (K : List Clause) → All (IsOver V) K → least_false P K ≡ None → All (λ n. (first < n) × (n ≤ length K)) ns → All (IsOver V) (forget ns 1 K)
over-forgotten V first P [] K over none all = subst (All (IsOver V)) (sym (forget-nothing 1 K)) over
over-forgotten V first P (m ∷ ns) K over none all = All-forget V (m ∷ ns) 1 K (some (get_or K (m - 1) []) refl) over
  where
    range : (first < m) × (m ≤ length K)
    range = all 0 0 (let z : 0 < length (m ∷ ns) = omega arith in z)

    inside : m - 1 < length K
    inside = let low = range.0 in let high = range.1 in omega arith

    some : (c : Clause) → get_or K (m - 1) [] ≡ c → 1 ≤ V
    some [] e = absurd (let f : is_false P [] ≡ false = subst (λ (c : Clause). is_false P c ≡ false) e (least_false-each P K (m - 1) (get_or K (m - 1) []) none (At-get K (m - 1) [] inside)) in cc)
    some (l ∷ c) e =
        let of : IsOver V (l ∷ c) = subst (IsOver V) e (over (m - 1) [] inside) in
        let r = of 0 l (let z : 0 < length (l ∷ c) = omega arith in z) in
        let low = r.0 in
        let high = r.1 in
        omega arith
