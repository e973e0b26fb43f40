-- The clauses that are resolved are there, and have few pairs.
use Rattle.std.proofs.Common.{◌≡◌, ℕ, suc, ◌+◌, ◌*◌, ◌<◌, ◌≤◌, Bool, true, false, ◌||◌, inl, inr, List, [], ◌∷◌, length, refl, ap, subst, Option, Some, None, Contains, All, arith, if◌then◌else◌}
use Rattle.std.specs.List.{list_any, list_all}
use Rattle.std.specs.Option.{unwrap_or}
use Rattle.theory.specs.Literals.{Literal, Clause, positive, negative, same, has}
use Rattle.theory.specs.Eliminating.{is_alone, first_or}
use Rattle.theory.proofs.literals.LiteralLemmas.{and-left}
use Rattle.theory.proofs.literals.Membership.{All-from, Contains-here, Contains-cases, Contains-none}
use Rattle.simplify.specs.Entries.{Entries, entry_at, there, passes, numbers_in, holding, units_in, has_unit_in, weight_in, IsThere}
use Rattle.simplify.specs.Tried.{left_in, right_in}
use Rattle.simplify.proofs.EntryNumbers.{IsNumber, numbers-at}
use Rattle.simplify.proofs.UnitPlaces.{number-there}

-- a clause that is there and has the literal
abbrev Holds : Entries → Literal → ℕ → Type 0
Holds K l n = IsThere K n × (has (there K n) l ≡ true)

holds-from : (p : Clause → Bool) (l : Literal) (K : Entries) (n : ℕ) → ((c : Clause) → p c ≡ true → has c l ≡ true) → IsNumber p 1 K n → Holds K l n
holds-from p l K n h at = (number-there p K n at, go (entry_at K n) at.2)
  where
    go : (o : Option Clause) → passes p o ≡ true → has (unwrap_or o []) l ≡ true
    go None t = absurd (cc)
    go (Some c) t = h c t

of-holders : (l : Literal) (K : Entries) (n : ℕ) → Contains (holding l K) n → Holds K l n
of-holders l K n c = holds-from (λ d. has d l) l K n (λ d t. t) (numbers-at (λ d. has d l) 1 K n c)

of-units : (l : Literal) (K : Entries) (n : ℕ) → Contains (units_in l K) n → Holds K l n
of-units l K n c = holds-from (is_alone l) l K n (λ d t. and-left (has d l) (list_all (same l) d) t) (numbers-at (is_alone l) 1 K n c)

of-first : (l : Literal) (K : Entries) (us all : List ℕ) → ((n : ℕ) → Contains us n → Holds K l n) → ((n : ℕ) → Contains all n → Holds K l n) → (n : ℕ) → Contains (first_or us all) n → Holds K l n
of-first l K [] all h k n c = k n c
of-first l K (u ∷ us) all h k n c = elim (Contains-cases u [] n c) [ inl e ↦ subst (Holds K l) e (h u (Contains-here u us)) | inr none ↦ absurd (Contains-none n none) ]

pub left-there : (x : ℕ) (K : Entries) → All (λ n. IsThere K n × (has (there K n) (positive x) ≡ true)) (left_in x K)
left-there x K = All-from (Holds K (positive x)) (left_in x K) (of-first (positive x) K (units_in (positive x) K) (holding (positive x) K) (of-units (positive x) K) (of-holders (positive x) K))

pub right-there : (x : ℕ) (K : Entries) → All (λ n. IsThere K n × (has (there K n) (negative x) ≡ true)) (right_in x K)
right-there x K = All-from (Holds K (negative x)) (right_in x K) (go (units_in (positive x) K))
  where
    go : (us : List ℕ) (n : ℕ) → Contains (elim us [ [] ↦ first_or (units_in (negative x) K) (holding (negative x) K) | u ∷ rest ↦ holding (negative x) K ]) n → Holds K (negative x) n
    go [] n c = of-first (negative x) K (units_in (negative x) K) (holding (negative x) K) (of-units (negative x) K) (of-holders (negative x) K) n c
    go (u ∷ us) n c = of-holders (negative x) K n c

pub holders-there : (l : Literal) (K : Entries) → All (IsThere K) (holding l K)
holders-there l K = All-from (IsThere K) (holding l K) (λ n c. (of-holders l K n c).0)

-- they are no more than all
pub numbers-few : (p : Clause → Bool) (n : ℕ) (K : Entries) → length (numbers_in p n K) ≤ length K
numbers-few p n [] = omega arith
numbers-few p n (e ∷ K) = go (passes p e) (numbers-few p (n + 1) K)
  where
    go : (b : Bool) → length (numbers_in p (n + 1) K) ≤ length K → length (if b then n ∷ numbers_in p (n + 1) K else numbers_in p (n + 1) K) ≤ suc (length K)
    go true h = omega arith
    go false h = omega arith

-- no clause passes one test or the other
none-passes : (p q : Clause → Bool) (n : ℕ) (K : Entries) → numbers_in p n K ≡ [] → numbers_in q n K ≡ [] → list_any (passes (λ c. p c || q c)) K ≡ false
none-passes p q n [] h k = refl
none-passes p q n (None ∷ K) h k = none-passes p q (n + 1) K h k
none-passes p q n (Some c ∷ K) h k = go (p c) (q c) h k (none-passes p q (n + 1) K)
  where
    go : (a b : Bool) → (if a then n ∷ numbers_in p (n + 1) K else numbers_in p (n + 1) K) ≡ [] → (if b then n ∷ numbers_in q (n + 1) K else numbers_in q (n + 1) K) ≡ []
        → (numbers_in p (n + 1) K ≡ [] → numbers_in q (n + 1) K ≡ [] → list_any (passes (λ c. p c || q c)) K ≡ false) → ((a || b) || list_any (passes (λ c. p c || q c)) K) ≡ false
    go true b h k more = absurd (cc)
    go false true h k more = absurd (cc)
    go false false h k more = more h k

module _ (x : ℕ) (K : Entries) (light : weight_in K x ≤ 100) (few : length K < 4294967296) where
  unit-alone : (us : List ℕ) → units_in (positive x) K ≡ us → length (first_or us (holding (positive x) K)) * length {A = ℕ} (elim us [ [] ↦ first_or (units_in (negative x) K) (holding (negative x) K) | u ∷ rest ↦ holding (negative x) K ]) ≤ 4294967296
  unit-alone (u ∷ us) e = let fewer = numbers-few (λ c. has c (negative x)) 1 K in omega arith
  unit-alone [] e = other (units_in (negative x) K) refl
    where
      other : (vs : List ℕ) → units_in (negative x) K ≡ vs → length (holding (positive x) K) * length (first_or vs (holding (negative x) K)) ≤ 4294967296
      other (v ∷ vs) f = let fewer = numbers-few (λ c. has c (positive x)) 1 K in omega arith
      other [] f =
          let no_unit : has_unit_in x K ≡ false = none-passes (is_alone (positive x)) (is_alone (negative x)) 1 K e f in
          let weighs : weight_in K x ≡ length (holding (positive x) K) * length (holding (negative x) K) = ap (λ b. if b then 0 else length (holding (positive x) K) * length (holding (negative x) K)) no_unit in
          omega (arith, light, weighs)

  pub pairs-few : length (left_in x K) * length (right_in x K) ≤ 4294967296
  pairs-few = unit-alone (units_in (positive x) K) refl
