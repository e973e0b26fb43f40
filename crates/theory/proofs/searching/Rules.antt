-- The rules of propagation give unit clauses.
use Rattle.std.proofs.Common.{◌≡◌, ℕ, zero, suc, ◌+◌, ◌≤◌, List, [], ◌∷◌, length, refl, ap, subst, ◌∙◌, ◌⊎◌, inl, inr, arith, Bool, true, false, nat_le, if◌then◌else◌, Option, Some, None, option_map}
use Rattle.theory.specs.Literals.{Literal, Clause}
use Rattle.theory.specs.Status.{unit_literal}
use Rattle.theory.specs.Trails.{Trail, literals}
use Rattle.theory.specs.Propagation.{clause_at, least_unit, IsRule, by_number, Placed, nearer, nearest, last_false, by_place}
use Rattle.theory.proofs.literals.ClauseLemmas.{clause_at-next}

-- a unit clause of a number is a reason for its literal
pub least_unit-at : (P : List Literal) (K : List Clause) (u : ℕ × Literal) → least_unit P K ≡ Some u
    → (1 ≤ u.0) × (u.0 ≤ length K) × (unit_literal P (clause_at K u.0) ≡ Some u.1)
least_unit-at P [] u h = absurd (cc)
least_unit-at P (c ∷ K) u h = first (unit_literal P c) refl h (least_unit-at P K)
  where
    Claim : ℕ × Literal → Type 0
    Claim v = (1 ≤ v.0) × (v.0 ≤ length (c ∷ K)) × (unit_literal P (clause_at (c ∷ K) v.0) ≡ Some v.1)

    later : (r : Option (ℕ × Literal)) → ((v : ℕ × Literal) → r ≡ Some v → (1 ≤ v.0) × (v.0 ≤ length K) × (unit_literal P (clause_at K v.0) ≡ Some v.1))
        → option_map (λ v. (v.0 + 1, v.1)) r ≡ Some u → Claim u
    later None more e = absurd (cc)
    later (Some v) more e =
        let facts = more v refl in
        let one = facts.0 in
        let end = facts.1 in
        let pair : ◌≡◌ {A = ℕ × Literal} (v.0 + 1, v.1) u = cc in
        let here : Claim (v.0 + 1, v.1) = (omega arith, omega arith, rw (clause_at-next c K v.0 one) facts.2) in
        subst Claim pair here

    first : (r : Option Literal) → unit_literal P c ≡ r → elim r [ Some l ↦ Some (1, l) | None ↦ option_map (λ v. (v.0 + 1, v.1)) (least_unit P K) ] ≡ Some u
        → ((v : ℕ × Literal) → least_unit P K ≡ Some v → (1 ≤ v.0) × (v.0 ≤ length K) × (unit_literal P (clause_at K v.0) ≡ Some v.1)) → Claim u
    first (Some l) p e more =
        let pair : ◌≡◌ {A = ℕ × Literal} (1, l) u = cc in
        let here : Claim (1, l) = (omega arith, omega arith, p) in
        subst Claim pair here
    first None p e more = later (least_unit P K) more e

least_unit-none : (P : List Literal) (K : List Clause) (n : ℕ) → least_unit P K ≡ None → 1 ≤ n → n ≤ length K → unit_literal P (clause_at K n) ≡ None
least_unit-none P [] n h one end = absurd (omega arith)
least_unit-none P (c ∷ K) n h one end = first (unit_literal P c) refl h n one end (least_unit-none P K)
  where
    nothing : (r : Option (ℕ × Literal)) → ◌≡◌ {A = Option (ℕ × Literal)} (option_map (λ v. (v.0 + 1, v.1)) r) None → r ≡ None
    nothing None e = refl
    nothing (Some v) e = absurd (cc)

    first : (r : Option Literal) → unit_literal P c ≡ r → ◌≡◌ {A = Option (ℕ × Literal)} (elim r [ Some l ↦ Some (1, l) | None ↦ option_map (λ v. (v.0 + 1, v.1)) (least_unit P K) ]) None
        → (n : ℕ) → 1 ≤ n → n ≤ length (c ∷ K) → ((m : ℕ) → least_unit P K ≡ None → 1 ≤ m → m ≤ length K → unit_literal P (clause_at K m) ≡ None)
        → unit_literal P (clause_at (c ∷ K) n) ≡ None
    first (Some l) p e n one end more = absurd (cc)
    first None p e zero one end more = absurd (omega arith)
    first None p e (suc zero) one end more = p
    first None p e (suc (suc n)) one end more =
        let number : suc n + 1 ≡ suc (suc n) = omega arith in
        subst (λ m. unit_literal P (clause_at (c ∷ K) m) ≡ None) number
        (ap (unit_literal P) (clause_at-next c K (suc n) (omega arith)) ∙ more (suc n) (nothing (least_unit P K) e) (omega arith) (omega arith))

pub IsRule-by_number : IsRule by_number
IsRule-by_number = record { gives = λ T K u h. least_unit-at (literals T) K u h; none = λ T K n h one end. least_unit-none (literals T) K n h one end }

-- the nearer of two is one of them
nearer-one : (u v : Option Placed) (w : Placed) → nearer u v ≡ Some w → (u ≡ Some w) ⊎ (v ≡ Some w)
nearer-one None v w h = inr h
nearer-one (Some u) None w h = inl h
nearer-one (Some u) (Some v) w h = go (nat_le u.place v.place) h
  where
    go : (b : Bool) → (if b then Some u else Some v) ≡ Some w → (Some u ≡ Some w) ⊎ (Some v ≡ Some w)
    go true e = inl e
    go false e = inr e

nearer-none : (u v : Option Placed) → nearer u v ≡ None → (u ≡ None) × (v ≡ None)
nearer-none None v h = (refl, h)
nearer-none (Some u) None h = absurd (cc)
nearer-none (Some u) (Some v) h = absurd (go (nat_le u.place v.place) h)
  where
    go : (b : Bool) → (if b then Some u else Some v) ≡ None → ⊥
    go true e = cc
    go false e = cc

nearest-at : (T : Trail) (K : List Clause) (w : Placed) → nearest T K ≡ Some w
    → (1 ≤ w.unit.0) × (w.unit.0 ≤ length K) × (unit_literal (literals T) (clause_at K w.unit.0) ≡ Some w.unit.1)
nearest-at T [] w h = absurd (cc)
nearest-at T (c ∷ K) w h = elim (nearer-one (option_map here (unit_literal (literals T) c)) (option_map one_on (nearest T K)) w h) [
  | inl e ↦ first (unit_literal (literals T) c) refl e
  | inr e ↦ later (nearest T K) (nearest-at T K) e
]
  where
    here : Literal → Placed
    here l = record { place = last_false T c; unit = (1, l) }

    one_on : Placed → Placed
    one_on v = record { place = v.place; unit = (v.unit.0 + 1, v.unit.1) }

    Claim : Placed → Type 0
    Claim v = (1 ≤ v.unit.0) × (v.unit.0 ≤ length (c ∷ K)) × (unit_literal (literals T) (clause_at (c ∷ K) v.unit.0) ≡ Some v.unit.1)

    first : (r : Option Literal) → unit_literal (literals T) c ≡ r → option_map here r ≡ Some w → Claim w
    first None p e = absurd (cc)
    first (Some l) p e =
        let it : here l ≡ w = cc in
        let claim : Claim (here l) = (omega arith, omega arith, p) in
        subst Claim it claim

    later : (r : Option Placed) → ((v : Placed) → r ≡ Some v → (1 ≤ v.unit.0) × (v.unit.0 ≤ length K) × (unit_literal (literals T) (clause_at K v.unit.0) ≡ Some v.unit.1))
        → option_map one_on r ≡ Some w → Claim w
    later None more e = absurd (cc)
    later (Some v) more e =
        let facts = more v refl in
        let one = facts.0 in
        let end = facts.1 in
        let it : one_on v ≡ w = cc in
        let claim : Claim (one_on v) = (omega arith, omega arith, rw (clause_at-next c K v.unit.0 one) facts.2) in
        subst Claim it claim

nearest-none : (T : Trail) (K : List Clause) (n : ℕ) → nearest T K ≡ None → 1 ≤ n → n ≤ length K → unit_literal (literals T) (clause_at K n) ≡ None
nearest-none T [] n h one end = absurd (omega arith)
nearest-none T (c ∷ K) n h one end = at n one end (nearest-none T K)
  where
    here : Literal → Placed
    here l = record { place = last_false T c; unit = (1, l) }

    one_on : Placed → Placed
    one_on v = record { place = v.place; unit = (v.unit.0 + 1, v.unit.1) }

    parts : (option_map here (unit_literal (literals T) c) ≡ None) × (option_map one_on (nearest T K) ≡ None)
    parts = nearer-none (option_map here (unit_literal (literals T) c)) (option_map one_on (nearest T K)) h

    nothing : {A : Type 0} (f : A → Placed) (r : Option A) → option_map f r ≡ None → r ≡ None
    nothing f None e = refl
    nothing f (Some v) e = absurd (cc)

    at : (n : ℕ) → 1 ≤ n → n ≤ length (c ∷ K) → ((m : ℕ) → nearest T K ≡ None → 1 ≤ m → m ≤ length K → unit_literal (literals T) (clause_at K m) ≡ None)
        → unit_literal (literals T) (clause_at (c ∷ K) n) ≡ None
    at zero one end more = absurd (omega arith)
    at (suc zero) one end more = nothing here (unit_literal (literals T) c) parts.0
    at (suc (suc n)) one end more =
        let number : suc n + 1 ≡ suc (suc n) = omega arith in
        subst (λ m. unit_literal (literals T) (clause_at (c ∷ K) m) ≡ None) number
        (ap (unit_literal (literals T)) (clause_at-next c K (suc n) (omega arith)) ∙ more (suc n) (nothing one_on (nearest T K) parts.1) (omega arith) (omega arith))

pub IsRule-by_place : IsRule by_place
IsRule-by_place = record { gives = gives; none = λ T K n h one end. nearest-none T K n (nothing (nearest T K) h) one end }
  where
    nothing : (r : Option Placed) → option_map (λ (w : Placed). w.unit) r ≡ None → r ≡ None
    nothing None e = refl
    nothing (Some w) e = absurd (cc)

    gives : (T : Trail) (K : List Clause) (u : ℕ × Literal) → by_place T K ≡ Some u → (1 ≤ u.0) × (u.0 ≤ length K) × (unit_literal (literals T) (clause_at K u.0) ≡ Some u.1)
    gives T K u h = go (nearest T K) refl h
      where
        go : (r : Option Placed) → nearest T K ≡ r → option_map (λ (w : Placed). w.unit) r ≡ Some u → (1 ≤ u.0) × (u.0 ≤ length K) × (unit_literal (literals T) (clause_at K u.0) ≡ Some u.1)
        go None e k = absurd (cc)
        go (Some w) e k =
            let it : w.unit ≡ u = cc in
            subst (λ (v : ℕ × Literal). (1 ≤ v.0) × (v.0 ≤ length K) × (unit_literal (literals T) (clause_at K v.0) ≡ Some v.1)) it (nearest-at T K w e)
