-- What the value of a variable says of its literals.
use Rattle.std.proofs.Common.{◌≡◌, ℕ, Bool, true, false, not, List, [], ◌∷◌, Some, None, cond, nat_eq, eqb-true, eq-eqb, refl, sym, subst}
use Rattle.theory.specs.Literals.{Literal, negated, has, has_var, are_distinct}
use Rattle.theory.proofs.literals.LiteralSets.{true_false, false_unless, or-none, has-equal, has-tail, negated-negated}
use Rattle.theory.proofs.literals.ClauseWalks.{consistent}
use Rattle.lrat.specs.Held.{value_in}

-- the value of a variable says which of its literals is held true
value-literal : (P : List Literal) (l : Literal) (b : Bool) → value_in P l.var ≡ Some b → l.positive ≡ b → has P l ≡ true
value-literal [] l b h p = absurd (cc)
value-literal (k ∷ P) l b h p = go (nat_eq k.var l.var) refl h (value-literal P l b)
  where
    go : (t : Bool) → nat_eq k.var l.var ≡ t → cond t (Some k.positive) (value_in P l.var) ≡ Some b → (value_in P l.var ≡ Some b → l.positive ≡ b → has P l ≡ true)
        → has (k ∷ P) l ≡ true
    go true t h more =
        let v : l.var ≡ k.var = sym (eqb-true k.var l.var t) in
        let s : l.positive ≡ k.positive = cc in
        has-equal k l P (λ i. record { var = v i; positive = s i })
    go false t h more = has-tail k l P (more h p)

pub value-held : (P : List Literal) (l : Literal) (b : Bool) → value_in P l.var ≡ Some b → b ≡ l.positive → has P l ≡ true
value-held P l b h p = value-literal P l b h (sym p)

pub value-false : (P : List Literal) (l : Literal) (b : Bool) → value_in P l.var ≡ Some b → (b ≡ l.positive → ⊥) → has P (negated l) ≡ true
value-false P l b h p = value-literal P (negated l) b h (other b l.positive p)
  where
    other : (x y : Bool) → (x ≡ y → ⊥) → not y ≡ x
    other true true n = absurd (n refl)
    other true false n = refl
    other false true n = refl
    other false false n = absurd (n refl)

pub value-none : (P : List Literal) (v : ℕ) → value_in P v ≡ None → has_var P v ≡ false
value-none [] v h = refl
value-none (k ∷ P) v h = go (nat_eq k.var v) refl h (value-none P v)
  where
    go : (t : Bool) → nat_eq k.var v ≡ t → cond t (Some k.positive) (value_in P v) ≡ None → (value_in P v ≡ None → has_var P v ≡ false) → has_var (k ∷ P) v ≡ false
    go true t h more = absurd (cc)
    go false t h more = or-none (nat_eq v k.var) (has_var P v) (false_unless (nat_eq v k.var) (λ e. true_false (nat_eq k.var v) (eq-eqb k.var v (sym (eqb-true v k.var e))) t)) (more h)

-- a variable whose value isn't a literal's: its negation is held true, and it isn't
pub value-other : (P : List Literal) (l : Literal) (b : Bool) → are_distinct P ≡ true → value_in P l.var ≡ Some b → (b ≡ l.positive → ⊥) → (has P (negated l) ≡ true) × (has P l ≡ false)
value-other P l b d h p =
    let there = value-false P l b h p in
    (there, subst (λ k. has P k ≡ false) (negated-negated l) (consistent P (negated l) d there))
