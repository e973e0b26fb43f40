-- Literals of distinct variables among 1 to V are at most V.
use Rattle.std.proofs.Common.{◌≡◌, ℕ, zero, suc, ◌+◌, ◌≤◌, Bool, true, false, not, List, [], ◌∷◌, length, refl, ap, sym, subst, nat_eq, eqb-true, eq-eqb, cond, filter, arith}
use Rattle.theory.specs.Literals.{Literal, has_var, IsVariable, are_distinct}
use Rattle.theory.proofs.literals.LiteralLemmas.{and-left, and-right, not_true}
use Rattle.theory.proofs.literals.LiteralSets.{and-true, has-head, has_var-has, has_var-none, has-from_filter, or-false_left, or-false_right, true_false}
use Rattle.theory.proofs.literals.OverVariables.{AreOver}

-- the literals that aren't of the variable w
abbrev others : ℕ → List Literal → List Literal
others w Q = filter (λ l. not (nat_eq l.var w)) Q

others-whole : (w : ℕ) (Q : List Literal) → has_var Q w ≡ false → others w Q ≡ Q
others-whole w [] h = refl
others-whole w (l ∷ Q) h = go (nat_eq l.var w) refl (others-whole w Q (or-false_right (nat_eq w l.var) (has_var Q w) h))
  where
    go : (b : Bool) → nat_eq l.var w ≡ b → others w Q ≡ Q → cond (not b) (l ∷ others w Q) (others w Q) ≡ l ∷ Q
    go true e more = true_false (nat_eq w l.var) (eq-eqb w l.var (sym (eqb-true l.var w e))) (or-false_left (nat_eq w l.var) (has_var Q w) h)
    go false e more = ap (λ x. l ∷ x) more

has_var-others : (w v : ℕ) (Q : List Literal) → has_var Q v ≡ false → has_var (others w Q) v ≡ false
has_var-others w v Q h = has_var-none (others w Q) v (λ l a e. true_false (has_var Q v)
    (subst (λ x. has_var Q x ≡ true) e (has_var-has Q l (has-from_filter (λ x. not (nat_eq x.var w)) Q l a).0)) h)

are_distinct-others : (w : ℕ) (Q : List Literal) → are_distinct Q ≡ true → are_distinct (others w Q) ≡ true
are_distinct-others w [] h = refl
are_distinct-others w (l ∷ Q) h = go (nat_eq l.var w) (are_distinct-others w Q (and-right (not (has_var Q l.var)) (are_distinct Q) h))
  where
    alone : has_var Q l.var ≡ false
    alone = not_true (has_var Q l.var) (and-left (not (has_var Q l.var)) (are_distinct Q) h)

    go : (b : Bool) → are_distinct (others w Q) ≡ true → are_distinct (cond (not b) (l ∷ others w Q) (others w Q)) ≡ true
    go true more = more
    go false more = and-true (not (has_var (others w Q) l.var)) (are_distinct (others w Q)) (ap not (has_var-others w l.var Q alone)) more

-- at most one is of the variable
length-others : (w : ℕ) (Q : List Literal) → are_distinct Q ≡ true → length Q ≤ length (others w Q) + 1
length-others w [] h = omega arith
length-others w (l ∷ Q) h = go (nat_eq l.var w) refl (length-others w Q (and-right (not (has_var Q l.var)) (are_distinct Q) h))
  where
    alone : has_var Q l.var ≡ false
    alone = not_true (has_var Q l.var) (and-left (not (has_var Q l.var)) (are_distinct Q) h)

    go : (b : Bool) → nat_eq l.var w ≡ b → length Q ≤ length (others w Q) + 1 → length (l ∷ Q) ≤ length (cond (not b) (l ∷ others w Q) (others w Q)) + 1
    go true e more =
        let whole : others w Q ≡ Q = others-whole w Q (subst (λ x. has_var Q x ≡ false) (eqb-true l.var w e) alone) in
        let long : length (others w Q) ≡ length Q = ap length whole in
        omega arith
    go false e more = omega arith

AreOver-others : (W : ℕ) (Q : List Literal) → AreOver (suc W) Q → AreOver W (others (suc W) Q)
AreOver-others W Q h l a =
    let kept = has-from_filter (λ x. not (nat_eq x.var (suc W))) Q l a in
    let within : IsVariable (suc W) l.var = h l kept.0 in
    let low : 1 ≤ l.var = within.0 in
    let high : l.var ≤ suc W = within.1 in
    let apart : nat_eq l.var (suc W) ≡ false = not_true (nat_eq l.var (suc W)) kept.1 in
    let other : l.var ≡ suc W → ⊥ = λ e. true_false (nat_eq l.var (suc W)) (eq-eqb l.var (suc W) e) apart in
    (low, omega arith)

pub length-distinct : (V : ℕ) (Q : List Literal) → are_distinct Q ≡ true → AreOver V Q → length Q ≤ V
length-distinct zero [] d h = omega arith
length-distinct zero (l ∷ Q) d h = let within = h l (has-head l Q) in let low = within.0 in let high = within.1 in absurd (omega arith)
length-distinct (suc W) Q d h =
    let less : length (others (suc W) Q) ≤ W = length-distinct W (others (suc W) Q) (are_distinct-others (suc W) Q d) (AreOver-others W Q h) in
    let one : length Q ≤ length (others (suc W) Q) + 1 = length-others (suc W) Q d in
    omega arith
