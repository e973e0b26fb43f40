-- Variables of which no literal is held true.
use Rattle.std.proofs.Common.{◌≡◌, ℕ, false, List, [], ◌∷◌, Some, None, cond, nat_eq, eq-eqb, refl, ap, sym, ◌∙◌, ne_eqb}
use Rattle.theory.specs.Literals.{Literal, has_var}
use Rattle.theory.proofs.literals.LiteralSets.{true_false, or-false_left, or-false_right}
use Rattle.lrat.specs.Held.{value_in}

-- such a one has no truth value
pub unheld : (P : List Literal) (v : ℕ) → has_var P v ≡ false → value_in P v ≡ None
unheld [] v h = refl
unheld (l ∷ P) v h =
    let other : nat_eq l.var v ≡ false = ne_eqb l.var v (λ e. true_false (nat_eq v l.var) (eq-eqb v l.var (sym e)) (or-false_left (nat_eq v l.var) (has_var P v) h)) in
    ap (λ b. cond b (Some l.positive) (value_in P v)) other ∙ unheld P v (or-false_right (nat_eq v l.var) (has_var P v) h)
