-- Saved values that agree for free variables still do once all have changed.
use Rattle.std.proofs.Common.{◌≡◌, ℕ, ◌-◌, ◌%◌, Bool, true, false, not, List, length, map, nat_eq, ap, sym, ◌∙◌, arith, if◌then◌else◌}
use Rattle.std.proofs.lemmas.List.{length-map}
use Rattle.theory.specs.Literals.{Literal, IsVariable}
use Rattle.theory.specs.Truth.{Assignment, value}
use Rattle.theory.specs.Rephasing.{rephased}
use Rattle.cdcl.specs.Saving.{AgreeOutside}
use Rattle.cdcl.proofs.ListsInPlace.{mapped-read}

value-map : (f : Bool → Bool) (V : ℕ) (M : Assignment) (v : ℕ) → length M ≡ V → IsVariable V v → value (map f M) v ≡ f (value M v)
value-map f V M v long k = mapped-read f M (v - 1) false false (let low = k.0 in let high = k.1 in omega (arith, long, low, high))

agree-map : (f : Bool → Bool) (V : ℕ) (P : List Literal) (M N : Assignment) → length M ≡ V → length N ≡ V → AgreeOutside V P M N → AgreeOutside V P (map f M) (map f N)
agree-map f V P M N one two h v k free = value-map f V M v one k ∙ (ap f (h v k free) ∙ sym (value-map f V N v two k))

pub AgreeOutside-rephased : (n V : ℕ) (P : List Literal) (M N : Assignment) → length M ≡ V → length N ≡ V → AgreeOutside V P M N → AgreeOutside V P (rephased n M) (rephased n N)
AgreeOutside-rephased n V P M N one two h = go (nat_eq (n % 3) 1) (nat_eq (n % 3) 2)
  where
    go : (a b : Bool) → AgreeOutside V P (if a then map (λ v. true) M else if b then map not M else map (λ v. false) M) (if a then map (λ v. true) N else if b then map not N else map (λ v. false) N)
    go true b = agree-map (λ v. true) V P M N one two h
    go false true = agree-map not V P M N one two h
    go false false = agree-map (λ v. false) V P M N one two h

pub length-rephased : (n : ℕ) (M : Assignment) → length (rephased n M) ≡ length M
length-rephased n M = go (nat_eq (n % 3) 1) (nat_eq (n % 3) 2)
  where
    go : (a b : Bool) → length (if a then map (λ v. true) M else if b then map not M else map (λ v. false) M) ≡ length M
    go true b = length-map M (λ v. true)
    go false true = length-map M not
    go false false = length-map M (λ v. false)
