-- Lists: what is found in one, its last element, and when two texts are one.
use Rattle.std.proofs.Common.{◌≡◌, ℕ, Bool, true, false, List, [], ◌∷◌, ◌++◌, length, refl, ap, ap₂, sym, ◌∙◌, nat_eq, eqb-true, Some, find, cond, slice_get}
use Rattle.theory.specs.Tokens.{is_text}
use Rattle.theory.proofs.literals.LiteralLemmas.{and-left, and-right}

-- what is found passes
find-on : {A : Type 0} (p : A → Bool) (x y : A) (ys : List A) (b : Bool) → p y ≡ b → (find p ys ≡ Some x → p x ≡ true) → cond b (Some y) (find p ys) ≡ Some x → p x ≡ true
find-on p x y ys true e more k = let one : y ≡ x = cc in ap p (sym one) ∙ e
find-on p x y ys false e more k = more k

pub find-passes : {A : Type 0} (p : A → Bool) (xs : List A) (x : A) → find p xs ≡ Some x → p x ≡ true
find-passes p [] x h = absurd (cc)
find-passes p (y ∷ ys) x h = find-on p x y ys (p y) refl (find-passes p ys x) h

pub slice_get-push : {A : Type 0} (xs : List A) (x : A) → slice_get (xs ++ x ∷ []) (length xs) ≡ Some x
slice_get-push [] x = refl
slice_get-push (y ∷ ys) x = slice_get-push ys x

pub is_text-eq : (t u : List ℕ) → is_text t u ≡ true → t ≡ u
is_text-eq [] [] h = refl
is_text-eq [] (c ∷ u) h = absurd (cc)
is_text-eq (b ∷ t) [] h = absurd (cc)
is_text-eq (b ∷ t) (c ∷ u) h = ap₂ (λ x xs. x ∷ xs) (eqb-true b c (and-left (nat_eq b c) (is_text t u) h)) (is_text-eq t u (and-right (nat_eq b c) (is_text t u) h))
