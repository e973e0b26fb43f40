-- The clauses that go with a variable.
use Rattle.std.proofs.Common.{◌≡◌, ℕ, suc, zero, ◌+◌, ◌-◌, ◌<◌, ◌≤◌, nat_eq, Bool, true, false, ◌&&◌, ◌||◌, inl, inr, List, [], ◌∷◌, ◌++◌, map, length, refl, ap, sym, subst, ◌∙◌, Option, Some, None, is_some, Contains, All, eqb-true, slice_get, slice_set, arith, if◌then◌else◌}
use Rattle.std.specs.Option.{unwrap_or}
use Rattle.theory.specs.Literals.{Literal, Clause, positive, negative, same, has, has_var}
use Rattle.theory.specs.Learning.{Line}
use Rattle.theory.proofs.literals.LiteralLemmas.{or-left, or-right, same-refl}
use Rattle.theory.proofs.literals.LiteralSets.{has_var-has, same_variable}
use Rattle.theory.proofs.literals.Membership.{All-from, Contains-here, Contains-there, slice_get-Contains}
use Rattle.simplify.specs.Entries.{Entries, entry_at, passes, numbers_in, holding, IsThere, IsSet, AreSets}
use Rattle.simplify.specs.Stored.{with_clauses, AreRemovable}
use Rattle.simplify.specs.MergedLists.{merged}
use Rattle.simplify.specs.Tried.{gone_in}
use Rattle.simplify.proofs.LiteralSets.{one_sign}
use Rattle.simplify.proofs.EntryNumbers.{both-ways, numbers-at}
use Rattle.simplify.proofs.MergedLists.{merged-numbers}
use Rattle.simplify.proofs.UnitPlaces.{number-there}

pub literal_of_var : (c : Clause) (v : ℕ) → has_var c v ≡ true → (l : Literal) × (has c l ≡ true) × (l.var ≡ v)
literal_of_var [] v t = absurd (cc)
literal_of_var (k ∷ c) v t = go (nat_eq v k.var) refl t (literal_of_var c v)
  where
    go : (b : Bool) → nat_eq v k.var ≡ b → (b || has_var c v) ≡ true → (has_var c v ≡ true → (l : Literal) × (has c l ≡ true) × (l.var ≡ v)) → (l : Literal) × (has (k ∷ c) l ≡ true) × (l.var ≡ v)
    go true e h more = (k, or-left (same k k) (has c k) (same-refl k), sym (eqb-true v k.var e))
    go false e h more = let it = more h in (it.0, or-right (same it.0 k) (has c it.0) it.1, it.2)

-- a clause has x where it has one of its literals
var-of-literals : (c : Clause) (x : ℕ) → has_var c x ≡ (has c (positive x) || has c (negative x))
var-of-literals c x = both-ways (has_var c x) (has c (positive x) || has c (negative x)) to from
  where
    to : has_var c x ≡ true → (has c (positive x) || has c (negative x)) ≡ true
    to t =
        let it = literal_of_var c x t in
        elim (same_variable it.0 (positive x) it.2) [
          | inl e ↦ or-left (has c (positive x)) (has c (negative x)) (subst (λ l. has c l ≡ true) e it.1)
          | inr e ↦ or-right (has c (positive x)) (has c (negative x)) (subst (λ l. has c l ≡ true) e it.1)
        ]

    from : (has c (positive x) || has c (negative x)) ≡ true → has_var c x ≡ true
    from t = go (has c (positive x)) refl t
      where
        go : (b : Bool) → has c (positive x) ≡ b → (b || has c (negative x)) ≡ true → has_var c x ≡ true
        go true e h = has_var-has c (positive x) e
        go false e h = has_var-has c (negative x) h

-- and not both
not-both : (V : ℕ) (c : Clause) (x : ℕ) → IsSet V c → (has c (positive x) && has c (negative x)) ≡ false
not-both V c x s = go (has c (positive x)) refl
  where
    go : (b : Bool) → has c (positive x) ≡ b → (b && has c (negative x)) ≡ false
    go true e = one_sign c (positive x) s.one_sign e
    go false e = refl

pub gone-merged : (V x : ℕ) (K : Entries) → AreSets V K → merged (holding (positive x) K) (holding (negative x) K) ≡ gone_in x K
gone-merged V x K sets = merged-numbers (λ c. has c (positive x)) (λ c. has c (negative x)) (λ c. has_var c x) 1 K (All-from Fits K fits)
  where
    Fits : Option Clause → Type 0
    Fits e = (passes (λ c. has_var c x) e ≡ (passes (λ c. has c (positive x)) e || passes (λ c. has c (negative x)) e)) × ((passes (λ c. has c (positive x)) e && passes (λ c. has c (negative x)) e) ≡ false)

    at : (n : ℕ) (e : Option Clause) → entry_at K n ≡ e → Fits e
    at n None h = (refl, refl)
    at n (Some c) h = (var-of-literals c x, not-both V c x (sets n c h))

    fits : (e : Option Clause) → Contains K e → Fits e
    fits e c =
        let k = slice_get-Contains K e c in
        at (suc k.0) e (ap (λ i. unwrap_or (slice_get K i) None) (less k.0) ∙ ap (λ o. unwrap_or o None) k.1)
      where
        less : (i : ℕ) → suc i - 1 ≡ i
        less i = omega arith

pub gone-there : (x : ℕ) (K : Entries) → All (IsThere K) (gone_in x K)
gone-there x K = All-from (IsThere K) (gone_in x K) (λ n c. number-there (λ c. has_var c x) K n (numbers-at (λ c. has_var c x) 1 K n c))

-- they can go one after the other
abbrev AreRising : List ℕ → Type 0
AreRising [] = Unit {0}
AreRising (n ∷ ns) = ((m : ℕ) → Contains ns m → n < m) × AreRising ns

numbers-rise : (p : Clause → Bool) (n : ℕ) (K : Entries) → AreRising (numbers_in p n K)
numbers-rise p n [] = tt
numbers-rise p n (e ∷ K) = go (passes p e) (numbers-rise p (n + 1) K)
  where
    go : (b : Bool) → AreRising (numbers_in p (n + 1) K) → AreRising (if b then n ∷ numbers_in p (n + 1) K else numbers_in p (n + 1) K)
    go true more = ((λ m c. let low = (numbers-at p (n + 1) K m c).0 in omega arith), more)
    go false more = more

get-other : (K : Entries) (i j : ℕ) (e : Option Clause) → (i ≡ j → ⊥) → slice_get (slice_set K i e) j ≡ slice_get K j
get-other [] i j e h = refl
get-other (d ∷ K) zero zero e h = absurd (h refl)
get-other (d ∷ K) zero (suc j) e h = refl
get-other (d ∷ K) (suc i) zero e h = refl
get-other (d ∷ K) (suc i) (suc j) e h = get-other K i j e (λ q. h (ap (λ k. suc k) q))

length-kept : (K : Entries) (i : ℕ) (e : Option Clause) → length (slice_set K i e) ≡ length K
length-kept [] i e = refl
length-kept (d ∷ K) zero e = refl
length-kept (d ∷ K) (suc i) e = ap (λ k. suc k) (length-kept K i e)

still-there : (K : Entries) (n m : ℕ) → 1 ≤ n → n < m → IsThere K m → IsThere (slice_set K (n - 1) None) m
still-there K n m low less h =
    let high = h.1 in
    let long = length-kept K (n - 1) None in
    (h.0, omega arith, ap (λ o. is_some (unwrap_or o None)) (get-other K (n - 1) (m - 1) None (λ e. omega arith)) ∙ h.2)

removable : (K : Entries) (ns : List ℕ) → AreRising ns → ((n : ℕ) → Contains ns n → IsThere K n) → AreRemovable K ns
removable K [] r h = tt
removable K (n ∷ ns) r h =
    let here = h n (Contains-here n ns) in
    (here, removable (slice_set K (n - 1) None) ns r.1 (λ m c. still-there K n m here.0 (r.0 m c) (h m (Contains-there n ns m c))))

more-there : (K L : Entries) (n : ℕ) → IsThere K n → IsThere (K ++ L) n
more-there K L n h =
    let low = h.0 in
    let high = h.1 in
    let long = length-both K L in
    (h.0, omega arith, ap is_some (at-more K (n - 1) (omega arith)) ∙ h.2)
  where
    length-both : (A B : Entries) → length (A ++ B) ≡ length A + length B
    length-both [] B = omega arith
    length-both (a ∷ A) B = let rest = length-both A B in omega arith

    at-more : (A : Entries) (i : ℕ) → i < length A → unwrap_or (slice_get (A ++ L) i) None ≡ unwrap_or (slice_get A i) None
    at-more [] i b = absurd (omega arith)
    at-more (a ∷ A) zero b = refl
    at-more (a ∷ A) (suc i) b = at-more A i (omega arith)

pub gone-removable : (x : ℕ) (K : Entries) (lines : List Line) → AreRemovable (with_clauses K lines) (gone_in x K)
gone-removable x K lines = removable (with_clauses K lines) (gone_in x K) (numbers-rise (λ c. has_var c x) 1 K)
    (λ n c. more-there K (map (λ (l : Line). Some l.clause) lines) n (number-there (λ c. has_var c x) K n (numbers-at (λ c. has_var c x) 1 K n c)))
