-- The parts of a round take turns.
use Rattle.std.proofs.Common.{◌≡◌, ◌≢◌, ℕ, suc, ◌+◌, ◌%◌, ◌<◌, Bool, true, false, cond, eqb, List, [], ◌∷◌, ◌++◌, length, refl, sym, ap, ◌∙◌, arith}
use Rattle.std.proofs.Math.Nat.{suc-mod, mod-eq_of_lt}
use Rattle.std.proofs.Math.Numerals.{suc-eq-add-one}
use Rattle.std.proofs.lemmas.Bool.{eq-eqb, eqb-true, eqb-false}
use Rattle.spread.specs.Parts.{part_at, of_part}

after : (parts number : ℕ) → (number + 1) % parts ≡ (number % parts + 1) % parts
after parts number = ap (λ n. n % parts) (sym (suc-eq-add-one number)) ∙ (suc-mod number parts ∙ ap (λ n. n % parts) (suc-eq-add-one (number % parts)))

-- the next cube belongs to the next part
pub turn-on : (parts number part : ℕ) → part ≡ part_at parts number → part < parts → part + 1 ≡ part_at parts (number + 1)
turn-on parts number part same before =
    let below : number % parts + 1 < parts = omega arith in
    let next : (number + 1) % parts ≡ number % parts + 1 = after parts number ∙ mod-eq_of_lt below in
    omega arith

with-own : {A : Type 0} (b : Bool) (y x : A) (new old : List A) → new ≡ old ++ x ∷ [] → cond b (y ∷ new) new ≡ cond b (y ∷ old) old ++ x ∷ []
with-own true y x new old e = ap (λ zs. y ∷ zs) e
with-own false y x new old e = e

with-other : {A : Type 0} (b : Bool) (y : A) (new old : List A) → new ≡ old → cond b (y ∷ new) new ≡ cond b (y ∷ old) old
with-other b y new old e = ap (λ zs. cond b (y ∷ zs) zs) e

none : (number : ℕ) → number ≡ number + 0
none number = omega arith

along : (number count : ℕ) → number + 1 + count ≡ number + suc count
along number count = omega arith

-- one thing more, which is the part's
pub of_part-own : {A : Type 0} (part parts number : ℕ) (xs : List A) (x : A) → part_at parts (number + length xs) ≡ part
    → of_part part parts number (xs ++ x ∷ []) ≡ of_part part parts number xs ++ x ∷ []
of_part-own part parts number [] x own = let here : eqb (part_at parts number) part ≡ true = eq-eqb (part_at parts number) part (ap (part_at parts) (none number) ∙ own) in rw here refl
of_part-own part parts number (y ∷ ys) x own =
    with-own (eqb (part_at parts number) part) y x _ _ (of_part-own part parts (number + 1) ys x (ap (part_at parts) (along number (length ys)) ∙ own))

-- and one that isn't
pub of_part-other : {A : Type 0} (part parts number : ℕ) (xs : List A) (x : A) → part_at parts (number + length xs) ≢ part
    → of_part part parts number (xs ++ x ∷ []) ≡ of_part part parts number xs
of_part-other part parts number [] x other = go (eqb (part_at parts number) part) refl
  where
    go : (b : Bool) → eqb (part_at parts number) part ≡ b → cond b (x ∷ []) [] ≡ []
    go true e = absurd (other (ap (part_at parts) (sym (none number)) ∙ eqb-true (part_at parts number) part e))
    go false e = refl
of_part-other part parts number (y ∷ ys) x other =
    with-other (eqb (part_at parts number) part) y _ _ (of_part-other part parts (number + 1) ys x (λ e. other (ap (part_at parts) (sym (along number (length ys))) ∙ e)))

-- whichever it is
pub of_part-next : {A : Type 0} (part parts number : ℕ) (xs way new : List A) (x : A) → number ≡ part_at parts (length xs) → way ≡ of_part part parts 0 xs
    → new ≡ cond (eqb number part) (way ++ x ∷ []) way → new ≡ of_part part parts 0 (xs ++ x ∷ [])
of_part-next part parts number xs way new x turn so_far is = go (eqb number part) refl is
  where
    at : part_at parts (0 + length xs) ≡ number
    at = ap (part_at parts) (omega arith) ∙ sym turn

    go : (b : Bool) → eqb number part ≡ b → new ≡ cond b (way ++ x ∷ []) way → new ≡ of_part part parts 0 (xs ++ x ∷ [])
    go true e h = h ∙ (ap (λ zs. zs ++ x ∷ []) so_far ∙ sym (of_part-own part parts 0 xs x (at ∙ eqb-true number part e)))
    go false e h = h ∙ (so_far ∙ sym (of_part-other part parts 0 xs x (λ s. eqb-false number part e (sym at ∙ s))))
