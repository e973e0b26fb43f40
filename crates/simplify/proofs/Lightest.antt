-- The lightest of the variables 1 to V that pass a test, and that it is the one of the least key.
use Rattle.std.proofs.Common.{◌≡◌, ℕ, zero, suc, ◌+◌, ◌*◌, ◌<◌, ◌≤◌, ◌⊎◌, inl, inr, Bool, true, false, cond, nat_le, List, [], ◌∷◌, ◌++◌, map, filter, replicate, Option, Some, None, refl, ap, sym, ◌∙◌, subst, add-one, arith}
use Rattle.std.proofs.lemmas.Bool.{cases_eq}
use Rattle.std.proofs.lemmas.Bool.Decides.{nat_tests}
use Rattle.std.proofs.lemmas.List.{append-nil, map-append, replicate_more}
use Rattle.std.proofs.lemmas.List.Elements.{filter-append}
use Rattle.theory.specs.Literals.{IsVariable}
use Rattle.theory.specs.Trails.{variables}
use Rattle.theory.proofs.literals.LiteralSets.{true_false}
use Rattle.simplify.specs.Candidates.{lighter_by, lightest_by}

pub variables-more : {X : Type 0} (f : ℕ → X) (n : ℕ) → map f (variables (n + 1)) ≡ map f (variables n) ++ f (n + 1) ∷ []
variables-more f n = ap (λ m. map f (variables m)) (add-one n) ∙ (map-append f (variables n) (suc n ∷ []) ∙ ap (λ m. map f (variables n) ++ f m ∷ []) (sym (add-one n)))

pub all-wait : (V : ℕ) → map (λ v. true) (variables V) ≡ replicate V true
all-wait zero = refl
all-wait (suc V) = map-append (λ (v : ℕ). true) (variables V) (suc V ∷ []) ∙ (ap (λ (bs : List Bool). bs ++ true ∷ []) (all-wait V) ∙ replicate_more V true ∙ ap (λ n. replicate n true) (add-one V))

-- one more behind the others is taken where it is lighter
abbrev later_by : (ℕ → ℕ) → Option ℕ → ℕ → Option ℕ
later_by w None y = Some y
later_by w (Some x) y = cond (nat_le (w x) (w y)) (Some x) (Some y)

lighter-later : (w : ℕ → ℕ) (z : ℕ) (o : Option ℕ) (y : ℕ) → lighter_by w z (later_by w o y) ≡ later_by w (lighter_by w z o) y
lighter-later w z None y = refl
lighter-later w z (Some x) y = go (nat_le (w x) (w y)) (nat_le (w z) (w x)) (nat_le (w z) (w y)) refl refl refl
  where
    go : (a b c : Bool) → nat_le (w x) (w y) ≡ a → nat_le (w z) (w x) ≡ b → nat_le (w z) (w y) ≡ c
        → lighter_by w z (cond (nat_le (w x) (w y)) (Some x) (Some y)) ≡ later_by w (cond (nat_le (w z) (w x)) (Some z) (Some x)) y
    go true true true e f g =
        (λ i. lighter_by w z (cond (e i) (Some x) (Some y))) ∙ ((λ i. cond (f i) (Some z) (Some x)) ∙ ((λ i. cond (sym g i) (Some z) (Some y)) ∙ (λ i. later_by w (cond (sym f i) (Some z) (Some x)) y)))
    go true true false e f g = absurd (true_false (nat_le (w z) (w y)) (grind (arith, nat_tests)) g)
    go true false c e f g =
        (λ i. lighter_by w z (cond (e i) (Some x) (Some y))) ∙ ((λ i. cond (f i) (Some z) (Some x)) ∙ ((λ i. cond (sym e i) (Some x) (Some y)) ∙ (λ i. later_by w (cond (sym f i) (Some z) (Some x)) y)))
    go false true c e f g = (λ i. lighter_by w z (cond (e i) (Some x) (Some y))) ∙ (λ i. later_by w (cond (sym f i) (Some z) (Some x)) y)
    go false false true e f g = absurd (true_false (nat_le (w z) (w x)) (grind (arith, nat_tests)) f)
    go false false false e f g =
        (λ i. lighter_by w z (cond (e i) (Some x) (Some y))) ∙ ((λ i. cond (g i) (Some z) (Some y)) ∙ ((λ i. cond (sym e i) (Some x) (Some y)) ∙ (λ i. later_by w (cond (sym f i) (Some z) (Some x)) y)))

lightest-last : (w : ℕ → ℕ) (xs : List ℕ) (y : ℕ) → lightest_by w (xs ++ y ∷ []) ≡ later_by w (lightest_by w xs) y
lightest-last w [] y = refl
lightest-last w (z ∷ xs) y = ap (lighter_by w z) (lightest-last w xs y) ∙ lighter-later w z (lightest_by w xs) y

-- what lightest_by answers, by keys: the lesser of two keys has the lesser weight, or the same weight
-- and the lesser variable
abbrev key : (ℕ → ℕ) → ℕ → ℕ
key w x = w x * 4294967296 + x

IsLightest : (ℕ → ℕ) → (ℕ → Bool) → ℕ → Option ℕ → Type 0
IsLightest w p V None = (v : ℕ) → IsVariable V v → p v ≡ false
IsLightest w p V (Some x) = IsVariable V x × (p x ≡ true) × ((v : ℕ) → IsVariable V v → p v ≡ true → key w x ≤ key w v)

last-or : (V v : ℕ) → IsVariable (suc V) v → IsVariable V v ⊎ (v ≡ suc V)
last-or V v h = elim (cases_eq v (suc V)) [
  | inl is ↦ inr is
  | inr other ↦ (let some = h.0 in let most = h.1 in inl (omega arith, omega arith))
]

one-more : (w : ℕ → ℕ) (p : ℕ → Bool) (V : ℕ) (o : Option ℕ) → suc V < 4294967296 → IsLightest w p V o → p (suc V) ≡ true → IsLightest w p (suc V) (later_by w o (suc V))
unfolding IsLightest
one-more w p V None few h passed = ((omega arith, omega arith), passed, λ v is q. elim (last-or V v is) [ inl before ↦ absurd (true_false (p v) q (h v before)) | inr last ↦ (let same : key w v ≡ key w (suc V) = ap (key w) last in omega arith) ])
one-more w p V (Some x) few h passed = go (nat_le (w x) (w (suc V))) refl
  where
    most : x ≤ V
    most = h.0.1

    go : (b : Bool) → nat_le (w x) (w (suc V)) ≡ b → IsLightest w p (suc V) (cond b (Some x) (Some (suc V)))
    go true e = (
      (h.0.0, omega (arith, most)),
      h.1,
      λ v is q. elim (last-or V v is) [
        | inl before ↦ h.2 v before q
        | inr last ↦ (let same : key w v ≡ key w (suc V) = ap (key w) last in let less : w x ≤ w (suc V) = grind (arith, nat_tests) in omega (arith, most))
      ],
    )
    go false e = (
      (omega arith, omega arith),
      passed,
      λ v is q. elim (last-or V v is) [
        | inl before ↦ (let more = h.2 v before q in let less : w (suc V) < w x = grind (arith, nat_tests) in omega (arith, most))
        | inr last ↦ (let same : key w v ≡ key w (suc V) = ap (key w) last in omega arith)
      ],
    )

stays : (w : ℕ → ℕ) (p : ℕ → Bool) (V : ℕ) (o : Option ℕ) → IsLightest w p V o → p (suc V) ≡ false → IsLightest w p (suc V) o
unfolding IsLightest
stays w p V None h fails = λ v is. elim (last-or V v is) [ inl before ↦ h v before | inr last ↦ ap p last ∙ fails ]
stays w p V (Some x) h fails = ((h.0.0, (let most = h.0.1 in omega arith)), h.1, λ v is q. elim (last-or V v is) [ inl before ↦ h.2 v before q | inr last ↦ absurd (true_false (p v) q (ap p last ∙ fails)) ])

answer : (w : ℕ → ℕ) (p : ℕ → Bool) (V : ℕ) → V < 4294967296 → IsLightest w p V (lightest_by w (filter p (variables V)))
unfolding IsLightest
answer w p zero few = λ v is. absurd (let some = is.0 in let most = is.1 in omega arith)
answer w p (suc V) few = subst (IsLightest w p (suc V)) (sym (ap (lightest_by w) (filter-append p (variables V) (suc V ∷ [])))) (go (p (suc V)) refl (answer w p V (omega arith)))
  where
    go : (b : Bool) → p (suc V) ≡ b → IsLightest w p V (lightest_by w (filter p (variables V))) → IsLightest w p (suc V) (lightest_by w (filter p (variables V) ++ cond b (suc V ∷ []) []))
    go true e h = subst (IsLightest w p (suc V)) (sym (lightest-last w (filter p (variables V)) (suc V))) (one-more w p V (lightest_by w (filter p (variables V))) few h e)
    go false e h = subst (λ (xs : List ℕ). IsLightest w p (suc V) (lightest_by w xs)) (sym (append-nil (filter p (variables V)))) (stays w p V (lightest_by w (filter p (variables V))) h e)

-- there is but one
same-variable : (w : ℕ → ℕ) (V x y : ℕ) → V < 4294967296 → x ≤ V → y ≤ V → key w x ≤ key w y → key w y ≤ key w x → x ≡ y
same-variable w V x y few a b l m = omega arith

pub lightest-is : (w : ℕ → ℕ) (p : ℕ → Bool) (V x : ℕ) → V < 4294967296 → IsVariable V x → p x ≡ true → ((v : ℕ) → IsVariable V v → p v ≡ true → w x * 4294967296 + x ≤ w v * 4294967296 + v)
    → lightest_by w (filter p (variables V)) ≡ Some x
unfolding IsLightest
lightest-is w p V x few is passes least = go (lightest_by w (filter p (variables V))) (answer w p V few)
  where
    go : (o : Option ℕ) → IsLightest w p V o → o ≡ Some x
    go None h = absurd (true_false (p x) passes (h x is))
    go (Some y) h = ap Some (same-variable w V y x few h.0.1 is.1 (h.2 x is passes) (least y h.0 h.1))

pub lightest-nobody : (w : ℕ → ℕ) (p : ℕ → Bool) (V : ℕ) → V < 4294967296 → ((v : ℕ) → IsVariable V v → p v ≡ false) → lightest_by w (filter p (variables V)) ≡ None
unfolding IsLightest
lightest-nobody w p V few none = go (lightest_by w (filter p (variables V))) (answer w p V few)
  where
    go : (o : Option ℕ) → IsLightest w p V o → o ≡ None
    go None h = refl
    go (Some y) h = absurd (true_false (p y) h.1 (none y h.0))
