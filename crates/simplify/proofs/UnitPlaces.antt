-- Where the first unit clause stands among the clauses that have a literal.
use Rattle.std.proofs.Common.{◌≡◌, ℕ, suc, zero, ◌+◌, ◌<◌, ◌≤◌, Bool, true, false, ◌&&◌, inl, inr, List, [], ◌∷◌, ◌++◌, filter, length, take, drop, slice_index, refl, ap, ap₂, sym, subst, ◌∙◌, Option, Some, None, is_some, Contains, arith, if◌then◌else◌}
use Rattle.std.specs.List.{list_all}
use Rattle.std.proofs.lemmas.List.{take_more, take_all, at_drop_more}
use Rattle.std.proofs.lemmas.List.Elements.{filter-append, Contains-get_or}
use Rattle.theory.specs.Literals.{Literal, Clause, same, has}
use Rattle.theory.specs.Learning.{IsRising}
use Rattle.theory.specs.Eliminating.{is_alone}
use Rattle.theory.proofs.literals.LiteralLemmas.{and-left, and-right, same-eq, same-refl}
use Rattle.theory.proofs.literals.LiteralSets.{has-head, has-cases}
use Rattle.simplify.specs.Entries.{Entries, entry_at, passes, holding, units_in, IsSet, IsThere}
use Rattle.simplify.proofs.LiteralSets.{IsSet-rising}
use Rattle.simplify.proofs.EntryNumbers.{IsNumber, numbers-at, numbers-narrower}

-- whether the clause of a number is a unit clause
abbrev pub is_unit_at : Literal → Entries → ℕ → Bool
is_unit_at l K n = passes (is_alone l) (entry_at K n)

pub units-of : (l : Literal) (K : Entries) → units_in l K ≡ filter (is_unit_at l K) (holding l K)
units-of l K = numbers-narrower (λ c. has c l) (is_alone l) 1 K (λ c t. and-left (has c l) (list_all (same l) c) t)

pub none-before : (t : ℕ → Bool) (ns : List ℕ) (i : ℕ) → i < length ns → filter t (take i ns) ≡ [] → t (slice_index ns i) ≡ false → filter t (take (i + 1) ns) ≡ []
none-before t ns i below none not_it =
    ap (filter t) (take_more ns i 0 below)
    ∙ (filter-append t (take i ns) (slice_index ns i ∷ [])
    ∙ ap₂ (λ (ms ks : List ℕ). ms ++ ks) none (ap (λ b. if b then slice_index ns i ∷ [] else []) not_it))

split : (ns : List ℕ) (i : ℕ) → take i ns ++ drop i ns ≡ ns
split ns zero = refl
split [] (suc i) = refl
split (n ∷ ns) (suc i) = ap (λ ms. n ∷ ms) (split ns i)

pub first-at : (t : ℕ → Bool) (ns : List ℕ) (i : ℕ) → i < length ns → filter t (take i ns) ≡ [] → t (slice_index ns i) ≡ true → filter t ns ≡ slice_index ns i ∷ filter t (drop (i + 1) ns)
first-at t ns i below none it =
    ap (filter t) (sym (split ns i))
    ∙ (filter-append t (take i ns) (drop i ns)
    ∙ (ap (λ ms. ms ++ filter t (drop i ns)) none
    ∙ (at_drop_more (filter t) ns i 0 below
    ∙ ap (λ b. if b then slice_index ns i ∷ filter t (drop (i + 1) ns) else filter t (drop (i + 1) ns)) it)))

-- a set that has the literal is a unit clause of it where it has one literal
alone-from : (c : Clause) (l : Literal) → has c l ≡ true → length c ≡ 1 → is_alone l c ≡ true
alone-from [] l h e = absurd (cc)
alone-from (k ∷ []) l h e = elim (has-cases k l [] h) [
  | inl i ↦ ap₂ (λ a b. a && b) h (ap (λ (j : Literal). same l j && true) (sym i) ∙ ap (λ b. b && true) (same-refl l))
  | inr none ↦ absurd (cc)
]
alone-from (k ∷ j ∷ c) l h e = absurd (omega arith)

alone-short : (c : Clause) (l : Literal) → IsRising c → is_alone l c ≡ true → length c ≡ 1
alone-short [] l r h = absurd (cc)
alone-short (k ∷ []) l r h = refl
alone-short (k ∷ j ∷ c) l r h =
    let all = and-right (has (k ∷ j ∷ c) l) (list_all (same l) (k ∷ j ∷ c)) h in
    let first = same-eq l k (and-left (same l k) (list_all (same l) (j ∷ c)) all) in
    let second = same-eq l j (and-left (same l j) (list_all (same l) c) (and-right (same l k) (list_all (same l) (j ∷ c)) all)) in
    let v : k.var ≡ j.var = ap (λ (x : Literal). x.var) (sym first ∙ second) in
    absurd (let less = r.0 j (has-head j c) in omega arith)

-- the numbers of those that have the literal
holder-at : (l : Literal) (K : Entries) (ns : List ℕ) (i : ℕ) → ns ≡ holding l K → i < length ns → IsNumber (λ d. has d l) 1 K (slice_index ns i)
holder-at l K ns i e below = numbers-at (λ d. has d l) 1 K (slice_index ns i) (subst (λ ms. Contains ms (slice_index ns i)) e (Contains-get_or ns i 0 below))

passes-some : (p : Clause → Bool) (o : Option Clause) → passes p o ≡ true → is_some o ≡ true
passes-some p None h = absurd (cc)
passes-some p (Some c) h = refl

pub number-there : (p : Clause → Bool) (K : Entries) (n : ℕ) → IsNumber p 1 K n → IsThere K n
number-there p K n h = let low = h.0 in let high = h.1 in (low, omega arith, passes-some p (entry_at K n) h.2)

pub holder-there : (l : Literal) (K : Entries) (ns : List ℕ) (i : ℕ) → ns ≡ holding l K → i < length ns → IsThere K (slice_index ns i)
holder-there l K ns i e below = number-there (λ d. has d l) K (slice_index ns i) (holder-at l K ns i e below)

pub holder-has : (l : Literal) (K : Entries) (ns : List ℕ) (i : ℕ) (c : Clause) → ns ≡ holding l K → i < length ns → entry_at K (slice_index ns i) ≡ Some c → has c l ≡ true
holder-has l K ns i c e below f = ap (passes (λ d. has d l)) (sym f) ∙ (holder-at l K ns i e below).2

pub unit-at : (V : ℕ) (l : Literal) (K : Entries) (n : ℕ) (c : Clause) → entry_at K n ≡ Some c → IsSet V c → has c l ≡ true → length c ≡ 1 → is_unit_at l K n ≡ true
unit-at V l K n c e s h one = ap (passes (is_alone l)) e ∙ alone-from c l h one

pub no_unit-at : (V : ℕ) (l : Literal) (K : Entries) (n : ℕ) (c : Clause) → entry_at K n ≡ Some c → IsSet V c → (length c ≡ 1 → ⊥) → is_unit_at l K n ≡ false
no_unit-at V l K n c e s many = go (is_alone l c) refl
  where
    go : (b : Bool) → is_alone l c ≡ b → is_unit_at l K n ≡ false
    go true i = absurd (many (alone-short c l (IsSet-rising V c s) i))
    go false i = ap (passes (is_alone l)) e ∙ i

-- found, or there is none
pub unit-found : (l : Literal) (K : Entries) (ns : List ℕ) (i : ℕ) → ns ≡ holding l K → i < length ns → filter (is_unit_at l K) (take i ns) ≡ [] → is_unit_at l K (slice_index ns i) ≡ true
    → units_in l K ≡ slice_index ns i ∷ filter (is_unit_at l K) (drop (i + 1) ns)
unit-found l K ns i e below none it = units-of l K ∙ (ap (filter (is_unit_at l K)) (sym e) ∙ first-at (is_unit_at l K) ns i below none it)

pub no_unit-found : (l : Literal) (K : Entries) (ns : List ℕ) (i : ℕ) → ns ≡ holding l K → length ns ≤ i → filter (is_unit_at l K) (take i ns) ≡ [] → units_in l K ≡ []
no_unit-found l K ns i e end none = units-of l K ∙ (ap (filter (is_unit_at l K)) (sym e) ∙ (ap (filter (is_unit_at l K)) (sym (take_all i ns end)) ∙ none))
