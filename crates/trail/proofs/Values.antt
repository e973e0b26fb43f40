-- What the value of a variable says of its literals.
use Rattle.std.proofs.Common.{◌≡◌, ℕ, Bool, true, false, not, [], ◌∷◌, Option, Some, None, option_map, cond, nat_eq, eqb-true, is_some, refl, ap, sym, subst, ◌∙◌}
use Rattle.theory.specs.Literals.{Literal, same_sign, negated, has, has_var}
use Rattle.theory.specs.Trails.{Entry, Trail, literals, entry_of}
use Rattle.theory.proofs.literals.LiteralSets.{has-equal, has-tail}
use Rattle.theory.proofs.literals.LiteralSets.{true_false}
use Rattle.trail.specs.declared.truth.Truth.{Truth}
use Rattle.trail.specs.declared.truth.Truth.TheVariants.{Satisfied, Falsified}
use Rattle.trail.specs.Tables.{IsTruth, value_in, value_of, truth_of}
use Rattle.trail.proofs.NextFree.{is_some-value_in}

-- the value of a variable says which of its literals is on the trail
pub value-literal : (T : Trail) (l : Literal) (b : Bool) → value_in T l.var ≡ Some b → l.positive ≡ b → has (literals T) l ≡ true
value-literal [] l b h p = absurd (cc)
value-literal (e ∷ T) l b h p = go (nat_eq e.lit.var l.var) refl h (value-literal T l b)
  where
    go : (t : Bool) → nat_eq e.lit.var l.var ≡ t → option_map (λ (x : Entry). x.lit.positive) (cond t (Some e) (entry_of T l.var)) ≡ Some b
        → (value_in T l.var ≡ Some b → l.positive ≡ b → has (literals T) l ≡ true) → has (literals (e ∷ T)) l ≡ true
    go true t k more =
        let v : l.var ≡ e.lit.var = sym (eqb-true e.lit.var l.var t) in
        let s : l.positive ≡ e.lit.positive = cc in
        has-equal e.lit l (literals T) (λ i. record { var = v i; positive = s i })
    go false t k more = has-tail e.lit l (literals T) (more k p)

pub value-true : (T : Trail) (l : Literal) (b : Bool) → value_in T l.var ≡ Some b → b ≡ l.positive → has (literals T) l ≡ true
value-true T l b h p = value-literal T l b h (sym p)

pub value-false : (T : Trail) (l : Literal) (b : Bool) → value_in T l.var ≡ Some b → (b ≡ l.positive → ⊥) → has (literals T) (negated l) ≡ true
value-false T l b h p = value-literal T (negated l) b h (other b l.positive p)
  where
    other : (x y : Bool) → (x ≡ y → ⊥) → not y ≡ x
    other true true n = absurd (n refl)
    other true false n = refl
    other false true n = refl
    other false false n = absurd (n refl)

pub value-none : (T : Trail) (v : ℕ) → value_in T v ≡ None → has_var (literals T) v ≡ false
value-none T v h = sym (is_some-value_in T v) ∙ ap is_some h

-- what the tables say of a literal
pub truth-value : (T : Trail) (l : Literal) (t : Truth) → t ≡ truth_of (value_in T l.var) l.positive → IsTruth (literals T) l (value_of t)
truth-value T l t h = subst (λ u. IsTruth (literals T) l (value_of u)) (sym h) (go (value_in T l.var) refl)
  where
    signs : (b s : Bool) → value_in T l.var ≡ Some b → l.positive ≡ s → IsTruth (literals T) l (value_of (cond (same_sign s b) Satisfied Falsified))
    signs true true v p = value-true T l true v (sym p)
    signs true false v p = value-false T l true v (λ e. true_false l.positive (sym e) p)
    signs false true v p = value-false T l false v (λ e. true_false l.positive p (sym e))
    signs false false v p = value-true T l false v (sym p)

    go : (o : Option Bool) → value_in T l.var ≡ o → IsTruth (literals T) l (value_of (truth_of o l.positive))
    go None v = value-none T l.var v
    go (Some b) v = signs b l.positive v refl

-- what they say of a variable's literal that isn't negated is the value of the variable
pub positive-value : (o : Option Bool) → value_of (truth_of o true) ≡ o
positive-value None = refl
positive-value (Some true) = refl
positive-value (Some false) = refl
