-- The variable of greatest score: it is one of those that it is chosen from, and there is one
-- wherever there are any.
use Rattle.std.proofs.Common.{◌≡◌, ℕ, zero, suc, Bool, true, false, not, List, [], ◌∷◌, refl, ap, sym, ◌∙◌, nat_eq, nat_le, eqb-true, eq-eqb, filter, find, cond, inl, inr, Option, Some, None, arith, if◌then◌else◌}
use Rattle.std.specs.List.{list_any}
use Rattle.std.proofs.lemmas.List.Folds.{list_any-append}
use Rattle.theory.specs.Literals.{Literal, has_var, IsVariable}
use Rattle.theory.specs.Trails.{variables}
use Rattle.theory.specs.Scores.{Scores, score_of, better, best_of, best_outside}
use Rattle.theory.proofs.literals.LiteralLemmas.{or-cases, or-left, or-right, not_true}
use Rattle.theory.proofs.literals.LiteralSets.{true_false}

best_of-some : (s : Scores) (vs : List ℕ) (x : ℕ) → best_of s vs ≡ Some x → list_any (nat_eq x) vs ≡ true
best_of-some s [] x h = absurd (cc)
best_of-some s (v ∷ vs) x h = go (best_of s vs) refl h (best_of-some s vs x)
  where
    Claim : Type 0
    Claim = list_any (nat_eq x) (v ∷ vs) ≡ true

    head : v ≡ x → Claim
    head e = or-left (nat_eq x v) (list_any (nat_eq x) vs) (eq-eqb x v (sym e))

    pick : (w : ℕ) (b : Bool) → best_of s vs ≡ Some w → (if b then Some w else Some v) ≡ Some x → (best_of s vs ≡ Some x → list_any (nat_eq x) vs ≡ true) → Claim
    pick w true e q more = or-right (nat_eq x v) (list_any (nat_eq x) vs) (more (e ∙ q))
    pick w false e q more = head (cc)

    go : (o : Option ℕ) → best_of s vs ≡ o → better s v o ≡ Some x → (best_of s vs ≡ Some x → list_any (nat_eq x) vs ≡ true) → Claim
    go None e q more = head (cc)
    go (Some w) e q more = pick w (nat_le (score_of s v) (score_of s w)) e q more

best_of-none : (s : Scores) (vs : List ℕ) → best_of s vs ≡ None → vs ≡ []
best_of-none s [] h = refl
best_of-none s (v ∷ vs) h = absurd (go (best_of s vs) h)
  where
    pick : (w : ℕ) (b : Bool) → ◌≡◌ {A = Option ℕ} (if b then Some w else Some v) None → ⊥
    pick w true q = cc
    pick w false q = cc

    go : (o : Option ℕ) → better s v o ≡ None → ⊥
    go None q = cc
    go (Some w) q = pick w (nat_le (score_of s v) (score_of s w)) q

-- what is left of a list by a test
pub from-filter : (p : ℕ → Bool) (vs : List ℕ) (x : ℕ) → list_any (nat_eq x) (filter p vs) ≡ true → (list_any (nat_eq x) vs ≡ true) × (p x ≡ true)
from-filter p [] x h = absurd (cc)
from-filter p (v ∷ vs) x h = go (p v) refl h (from-filter p vs x)
  where
    Claim : Type 0
    Claim = (list_any (nat_eq x) (v ∷ vs) ≡ true) × (p x ≡ true)

    later : (list_any (nat_eq x) vs ≡ true) × (p x ≡ true) → Claim
    later more = (or-right (nat_eq x v) (list_any (nat_eq x) vs) more.0, more.1)

    go : (b : Bool) → p v ≡ b → list_any (nat_eq x) (cond b (v ∷ filter p vs) (filter p vs)) ≡ true
        → (list_any (nat_eq x) (filter p vs) ≡ true → (list_any (nat_eq x) vs ≡ true) × (p x ≡ true)) → Claim
    go true e q more = elim (or-cases (nat_eq x v) (list_any (nat_eq x) (filter p vs)) q) [
      | inl i ↦ (or-left (nat_eq x v) (list_any (nat_eq x) vs) i, ap p (eqb-true x v i) ∙ e)
      | inr i ↦ later (more i)
    ]
    go false e q more = later (more q)

find-filter : (p : ℕ → Bool) (vs : List ℕ) → filter p vs ≡ [] → find p vs ≡ None
find-filter p [] h = refl
find-filter p (v ∷ vs) h = go (p v) h (find-filter p vs)
  where
    go : (b : Bool) → cond b (v ∷ filter p vs) (filter p vs) ≡ [] → (filter p vs ≡ [] → find p vs ≡ None) → cond b (Some v) (find p vs) ≡ None
    go true q more = absurd (cc)
    go false q more = more q

pub in-variables : (V x : ℕ) → list_any (nat_eq x) (variables V) ≡ true → IsVariable V x
in-variables zero x h = absurd (cc)
in-variables (suc V) x h = elim (or-cases (list_any (nat_eq x) (variables V)) (list_any (nat_eq x) (suc V ∷ [])) (sym (list_any-append (nat_eq x) (variables V) (suc V ∷ [])) ∙ h)) [
  | inl i ↦ wider (in-variables V x i)
  | inr i ↦ elim (or-cases (nat_eq x (suc V)) false i) [ inl e ↦ last (eqb-true x (suc V) e) | inr e ↦ absurd (cc) ]
]
  where
    wider : IsVariable V x → IsVariable (suc V) x
    wider v = let low = v.0 in let high = v.1 in (low, omega arith)

    last : x ≡ suc V → IsVariable (suc V) x
    last e = (omega arith, omega arith)

-- of those outside
pub best_outside-some : (vs : List ℕ) (P : List Literal) (s : Scores) (x : ℕ) → best_outside vs P s ≡ Some x → (list_any (nat_eq x) vs ≡ true) × (has_var P x ≡ false)
best_outside-some vs P s x h =
    let f = from-filter (λ v. not (has_var P v)) vs x (best_of-some s (filter (λ v. not (has_var P v)) vs) x h) in
    (f.0, not_true (has_var P x) f.1)

pub best_outside-none : (vs : List ℕ) (P : List Literal) (s : Scores) → best_outside vs P s ≡ None → find (λ v. not (has_var P v)) vs ≡ None
best_outside-none vs P s h = find-filter (λ v. not (has_var P v)) vs (best_of-none s (filter (λ v. not (has_var P v)) vs) h)

-- where none is found, each of them fails
pub none-among : (p : ℕ → Bool) (vs : List ℕ) (v : ℕ) → find p vs ≡ None → list_any (nat_eq v) vs ≡ true → p v ≡ false
none-among p [] v h a = absurd (cc)
none-among p (w ∷ vs) v h a = go (p w) refl h (none-among p vs v)
  where
    go : (b : Bool) → p w ≡ b → cond b (Some w) (find p vs) ≡ None → (find p vs ≡ None → list_any (nat_eq v) vs ≡ true → p v ≡ false) → p v ≡ false
    go true e q more = absurd (cc)
    go false e q more = elim (or-cases (nat_eq v w) (list_any (nat_eq v) vs) a) [ inl i ↦ ap p (eqb-true v w i) ∙ e | inr r ↦ more q r ]

pub best_outside-there : (vs : List ℕ) (P : List Literal) (s : Scores) (v : ℕ) → list_any (nat_eq v) vs ≡ true → has_var P v ≡ false → (x : ℕ) × (best_outside vs P s ≡ Some x)
best_outside-there vs P s v among free = go (best_outside vs P s) refl
  where
    go : (o : Option ℕ) → best_outside vs P s ≡ o → (x : ℕ) × (best_outside vs P s ≡ Some x)
    go (Some x) e = (x, e)
    go None e = true_false (not (has_var P v)) (ap not free) (none-among (λ v. not (has_var P v)) vs v (best_outside-none vs P s e) among)
