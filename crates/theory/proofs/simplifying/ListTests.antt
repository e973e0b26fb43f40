-- Tests that all, or some, of a list's elements pass, at one of them.
use Rattle.std.proofs.Common.{◌≡◌, Bool, true, false, List, [], ◌∷◌, refl, ap, sym, subst, ◌∙◌, ◌⊎◌, inl, inr, cond, filter, Contains}
use Rattle.std.specs.List.{list_any, list_all}
use Rattle.theory.proofs.literals.LiteralLemmas.{and-left, and-right, or-cases, or-left, or-right}
use Rattle.theory.proofs.literals.LiteralSets.{and-true, true_false}
use Rattle.theory.proofs.literals.Membership.{Contains-here, Contains-there, Contains-cases, Contains-none}

module _ {X : Type 0} where
  pub all-at : (p : X → Bool) (xs : List X) (x : X) → list_all p xs ≡ true → Contains xs x → p x ≡ true
  all-at p [] x h c = absurd (Contains-none x c)
  all-at p (y ∷ xs) x h c = elim (Contains-cases y xs x c) [
    | inl e ↦ ap p (sym e) ∙ and-left (p y) (list_all p xs) h
    | inr r ↦ all-at p xs x (and-right (p y) (list_all p xs) h) r
  ]

  pub all-from : (p : X → Bool) (xs : List X) → ((x : X) → Contains xs x → p x ≡ true) → list_all p xs ≡ true
  all-from p [] h = refl
  all-from p (y ∷ xs) h = and-true (p y) (list_all p xs) (h y (Contains-here y xs)) (all-from p xs (λ x c. h x (Contains-there y xs x c)))

  pub any-at : (p : X → Bool) (xs : List X) → list_any p xs ≡ true → (x : X) × Contains xs x × (p x ≡ true)
  any-at p [] h = absurd (cc)
  any-at p (y ∷ xs) h = elim (or-cases (p y) (list_any p xs) h) [
    | inl e ↦ (y, Contains-here y xs, e)
    | inr r ↦ let more = any-at p xs r in (more.0, Contains-there y xs more.0 more.1, more.2)
  ]

  pub any-from : (p : X → Bool) (xs : List X) (x : X) → Contains xs x → p x ≡ true → list_any p xs ≡ true
  any-from p [] x c h = absurd (Contains-none x c)
  any-from p (y ∷ xs) x c h = elim (Contains-cases y xs x c) [
    | inl e ↦ or-left (p y) (list_any p xs) (ap p e ∙ h)
    | inr r ↦ or-right (p y) (list_any p xs) (any-from p xs x r h)
  ]

  pub filter-has : (p : X → Bool) (xs : List X) (x : X) → Contains xs x → p x ≡ true → Contains (filter p xs) x
  filter-has p [] x c h = c
  filter-has p (y ∷ xs) x c h = go (p y) refl (Contains-cases y xs x c) (λ r. filter-has p xs x r h)
    where
      go : (b : Bool) → p y ≡ b → (y ≡ x) ⊎ Contains xs x → (Contains xs x → Contains (filter p xs) x) → Contains (cond b (y ∷ filter p xs) (filter p xs)) x
      go true e (inl i) more = subst (λ z. Contains (z ∷ filter p xs) x) (sym i) (Contains-here x (filter p xs))
      go true e (inr r) more = Contains-there y (filter p xs) x (more r)
      go false e (inl i) more = true_false (p y) (ap p i ∙ h) e
      go false e (inr r) more = more r

  pub has-filter_of : (p : X → Bool) (xs : List X) (x : X) → Contains (filter p xs) x → Contains xs x × (p x ≡ true)
  has-filter_of p [] x c = absurd (Contains-none x c)
  has-filter_of p (y ∷ xs) x c = go (p y) refl c (has-filter_of p xs x)
    where
      later : Contains xs x × (p x ≡ true) → Contains (y ∷ xs) x × (p x ≡ true)
      later m = (Contains-there y xs x m.0, m.1)

      go : (b : Bool) → p y ≡ b → Contains (cond b (y ∷ filter p xs) (filter p xs)) x → (Contains (filter p xs) x → Contains xs x × (p x ≡ true)) → Contains (y ∷ xs) x × (p x ≡ true)
      go true e k more = elim (Contains-cases y (filter p xs) x k) [
        | inl i ↦ (subst (λ z. Contains (z ∷ xs) x) (sym i) (Contains-here x xs), ap p (sym i) ∙ e)
        | inr r ↦ later (more r)
      ]
      go false e k more = later (more k)
