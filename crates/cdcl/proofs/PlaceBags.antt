-- Places in two bags, one behind the other.
use Rattle.std.proofs.Common.{ℕ, ◌≤◌, ◌<◌, List, ◌∷◌, ◌++◌, All, Option, Some, None, IfSome, subst, arith}
use Rattle.std.specs.List.{Contains}
use Rattle.std.specs.List.Sorted.{IsPermutation}
use Rattle.std.proofs.lemmas.List.Elements.{All-append, All-weaker}
use Rattle.std.proofs.lemmas.List.Sorted.{IsPermutation-trans, IsPermutation-sym, IsPermutation-middle, IsPermutation-append_left, IsPermutation-append_right}

-- one comes
pub pushed-near : (near far more : List ℕ) (place : ℕ) → IsPermutation (place ∷ near) more → IsPermutation (place ∷ (near ++ far)) (more ++ far)
pushed-near near far more place p = IsPermutation-append_left far (place ∷ near) more p

pub pushed-far : (near far more : List ℕ) (place : ℕ) → IsPermutation (place ∷ far) more → IsPermutation (place ∷ (near ++ far)) (near ++ more)
pushed-far near far more place p =
    IsPermutation-trans (place ∷ (near ++ far)) (near ++ place ∷ far) (near ++ more) (IsPermutation-sym (near ++ place ∷ far) (place ∷ (near ++ far)) (IsPermutation-middle near place far))
    (IsPermutation-append_right near (place ∷ far) more p)

-- one of the second bag goes
taken-far-one : (near far less : List ℕ) (place : ℕ) → IsPermutation far (place ∷ less) → IsPermutation (near ++ far) (place ∷ (near ++ less))
taken-far-one near far less place p = IsPermutation-trans (near ++ far) (near ++ place ∷ less) (place ∷ (near ++ less)) (IsPermutation-append_right near far (place ∷ less) p) (IsPermutation-middle near place less)

pub taken-far : (o : Option ℕ) (near far less : List ℕ) → IfSome o (λ n. IsPermutation far (n ∷ less)) → IfSome o (λ n. IsPermutation (near ++ far) (n ∷ (near ++ less)))
taken-far None near far less p = tt
taken-far (Some n) near far less p = taken-far-one near far less n p

-- a place of the second bag is greater than those of the first
pub greatest-far : (o : Option ℕ) (near far : List ℕ) (m greatest : ℕ) → Contains far m → greatest < m → All (λ k. k ≤ greatest) near → IfSome o (λ n. All (λ k. k ≤ n) far)
    → IfSome o (λ n. All (λ k. k ≤ n) (near ++ far))
greatest-far None near far m greatest there less first all = tt
greatest-far (Some n) near far m greatest there less first all =
    let here : m ≤ n = subst (λ k. k ≤ n) there.2 (all there.0 m there.1) in
    All-append (λ k. k ≤ n) near far (All-weaker (λ k. k ≤ greatest) (λ k. k ≤ n) (λ k f. omega (arith, f, less, here)) near first) all

-- one of the first bag goes; no place of the second bag is greater than one of the first
pub taken-near : (o : Option ℕ) (near far less : List ℕ) → IfSome o (λ n. IsPermutation near (n ∷ less)) → IfSome o (λ n. IsPermutation (near ++ far) (n ∷ (less ++ far)))
taken-near None near far less p = tt
taken-near (Some n) near far less p = IsPermutation-append_left far near (n ∷ less) p

pub greatest-near : (o : Option ℕ) (near far : List ℕ) (greatest : ℕ) → Contains near greatest → All (λ k. k ≤ greatest) far → IfSome o (λ n. All (λ k. k ≤ n) near)
    → IfSome o (λ n. All (λ k. k ≤ n) (near ++ far))
greatest-near None near far greatest there second all = tt
greatest-near (Some n) near far greatest there second all =
    let here : greatest ≤ n = subst (λ k. k ≤ n) there.2 (all there.0 greatest there.1) in
    All-append (λ k. k ≤ n) near far all (All-weaker (λ k. k ≤ greatest) (λ k. k ≤ n) (λ k f. omega (arith, f, here)) far second)
