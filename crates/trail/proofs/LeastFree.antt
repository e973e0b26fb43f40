-- The least free variable, by the variables below it.
use Rattle.std.proofs.Common.{◌≡◌, ℕ, zero, suc, ◌+◌, ◌<◌, ◌≤◌, Bool, true, false, not, List, [], ◌∷◌, ◌++◌, Some, None, find, cond, refl, ap, ◌∙◌, inl, inr, arith}
use Rattle.std.proofs.lemmas.Bool.{cases_lt}
use Rattle.theory.specs.Literals.{has_var}
use Rattle.theory.specs.Trails.{Trail, literals, variables, least_free}

find-append_none : (p : ℕ → Bool) (xs ys : List ℕ) → find p xs ≡ None → find p (xs ++ ys) ≡ find p ys
find-append_none p [] ys h = refl
find-append_none p (x ∷ xs) ys h = go (p x) h (find-append_none p xs ys)
  where
    go : (b : Bool) → cond b (Some x) (find p xs) ≡ None → (find p xs ≡ None → find p (xs ++ ys) ≡ find p ys) → cond b (Some x) (find p (xs ++ ys)) ≡ find p ys
    go true e more = absurd (cc)
    go false e more = more e

find-append_some : (p : ℕ → Bool) (xs ys : List ℕ) (v : ℕ) → find p xs ≡ Some v → find p (xs ++ ys) ≡ Some v
find-append_some p [] ys v h = absurd (cc)
find-append_some p (x ∷ xs) ys v h = go (p x) h (find-append_some p xs ys v)
  where
    go : (b : Bool) → cond b (Some x) (find p xs) ≡ Some v → (find p xs ≡ Some v → find p (xs ++ ys) ≡ Some v) → cond b (Some x) (find p (xs ++ ys)) ≡ Some v
    go true e more = e
    go false e more = more e

find-none : (p : ℕ → Bool) (V : ℕ) → ((u : ℕ) → 1 ≤ u → u ≤ V → p u ≡ false) → find p (variables V) ≡ None
find-none p zero h = refl
find-none p (suc W) h =
    let last : p (suc W) ≡ false = h (suc W) (omega arith) (omega arith) in
    let none : find p (suc W ∷ []) ≡ None = rw last refl in
    find-append_none p (variables W) (suc W ∷ []) (find-none p W (λ u one end. h u one (omega arith))) ∙ none

find-least : (p : ℕ → Bool) (V v : ℕ) → 1 ≤ v → v ≤ V → p v ≡ true → ((u : ℕ) → 1 ≤ u → u < v → p u ≡ false) → find p (variables V) ≡ Some v
find-least p zero v one end here below = absurd (omega arith)
find-least p (suc W) v one end here below = elim (cases_lt v (suc W)) [
  | inl less ↦ find-append_some p (variables W) (suc W ∷ []) v (find-least p W v one (omega arith) here below)
  | inr more ↦
      let last : v ≡ suc W = omega arith in
      let passes : p (suc W) ≡ true = rw (← last) here in
      let found : find p (suc W ∷ []) ≡ Some (suc W) = rw passes refl in
      find-append_none p (variables W) (suc W ∷ []) (find-none p W (λ u low high. below u low (omega arith))) ∙ (found ∙ ap Some (omega arith))
]

-- each variable below v stands on the trail
abbrev pub AreTaken : ℕ → Trail → Type 0
AreTaken v T = (u : ℕ) → 1 ≤ u → u < v → has_var (literals T) u ≡ true

pub least_free-found : (V v : ℕ) (T : Trail) → 1 ≤ v → v ≤ V → has_var (literals T) v ≡ false → AreTaken v T → least_free V T ≡ Some v
least_free-found V v T one end free taken =
    find-least (λ u. not (has_var (literals T) u)) V v one end (ap not free) (λ u low less. ap not (taken u low less))

pub least_free-none : (V v : ℕ) (T : Trail) → V < v → AreTaken v T → least_free V T ≡ None
least_free-none V v T past taken = find-none (λ u. not (has_var (literals T) u)) V (λ u one end. ap not (taken u one (omega arith)))

pub AreTaken-more : (v : ℕ) (T : Trail) → AreTaken v T → has_var (literals T) v ≡ true → AreTaken (v + 1) T
AreTaken-more v T taken here u one less = elim (cases_lt u v) [
  | inl below ↦ taken u one below
  | inr past ↦ let same : u ≡ v = omega arith in rw same here
]
