-- Literals held true, and their table.
use Rattle.std.proofs.Common.{◌≡◌, ℕ, zero, suc, ◌<◌, Bool, true, false, not, List, [], ◌∷◌, ◌++◌, length, get_or, Option, Some, None, cond, nat_eq, eqb-true, eq-eqb, refl, ap, sym, subst, ◌∙◌, slice_set, reverse, arith, get_or-set_other, get_or-set_same, append_assoc, append-nil, MatchOption, ne_eqb}
use Rattle.std.proofs.lemmas.List.{reverse-append, length-set}
use Rattle.theory.specs.Literals.{Literal, has_var, are_distinct}
use Rattle.theory.proofs.literals.LiteralLemmas.{and-left, and-right, not_true}
use Rattle.theory.proofs.literals.LiteralSets.{true_false, or-false_left, or-false_right}
use Rattle.lrat.specs.Held.{value_in, IsTable, Extends}

pub reverse-push : (P : List Literal) (l : Literal) → reverse (P ++ l ∷ []) ≡ l ∷ reverse P
reverse-push P l = reverse-append P (l ∷ [])

free-none : (P : List Literal) (v : ℕ) → has_var P v ≡ false → value_in P v ≡ None
free-none [] v h = refl
free-none (l ∷ P) v h =
    let other : nat_eq l.var v ≡ false = ne_eqb l.var v (λ e. true_false (nat_eq v l.var) (eq-eqb v l.var (sym e)) (or-false_left (nat_eq v l.var) (has_var P v) h)) in
    ap (λ b. cond b (Some l.positive) (value_in P v)) other ∙ free-none P v (or-false_right (nat_eq v l.var) (has_var P v) h)

pub IsTable-pop : (V : ℕ) (P : List Literal) (l : Literal) (values : List (Option Bool)) (v : ℕ) → v ≡ l.var → IsTable V (l ∷ P) values → IsTable V P (slice_set values v None)
IsTable-pop V P l values v e t = record {
  long = length-set values v None ∙ t.long;
  distinct = and-right (not (has_var P l.var)) (are_distinct P) t.distinct;
  over = λ k d less. t.over (suc k) d (omega arith);
  value_at = λ u. at u (nat_eq u v) refl;
}
  where
    within : v < length values
    within = let o = t.over zero l (omega arith) in let high = o.1 in let long = t.long in omega arith

    at : (u : ℕ) (b : Bool) → nat_eq u v ≡ b → get_or (slice_set values v None) u None ≡ value_in P u
    at u true f =
        let same : u ≡ v = eqb-true u v f in
        let free : has_var P l.var ≡ false = not_true (has_var P l.var) (and-left (not (has_var P l.var)) (are_distinct P) t.distinct) in
        subst (λ w. get_or (slice_set values v None) w None ≡ value_in P w) (sym same)
        (get_or-set_same values v None None within ∙ sym (free-none P v (subst (λ w. has_var P w ≡ false) (sym e) free)))
    at u false f =
        let other : u ≡ v → ⊥ = λ k. true_false (nat_eq u v) (eq-eqb u v k) f in
        let skip : nat_eq l.var u ≡ false = ne_eqb l.var u (λ k. other (sym k ∙ sym e)) in
        get_or-set_other values v u None None other ∙ (t.value_at u ∙ ap (λ b. cond b (Some l.positive) (value_in P u)) skip)

pub Extends-trans : (P Q R : List Literal) → Extends P Q → Extends Q R → Extends P R
Extends-trans P Q R h k = record { later = k.later ++ h.later; whole = k.whole ∙ (ap (λ x. k.later ++ x) h.whole ∙ sym (append_assoc k.later h.later P)) }

pub Extends-push : (P Q : List Literal) (l : Literal) → Extends P Q → Extends P (l ∷ Q)
Extends-push P Q l h = record { later = l ∷ h.later; whole = ap (λ x. l ∷ x) h.whole }

-- the latest literal taken away, while there are others behind P
pub Extends-pop : (P Q : List Literal) (l : Literal) → Extends P (l ∷ Q) → length P < length (l ∷ Q) → Extends P Q
Extends-pop P Q l h less = go h.later h.whole
  where
    go : (A : List Literal) → l ∷ Q ≡ A ++ P → Extends P Q
    go [] e = absurd (let n : length (l ∷ Q) ≡ length P = ap length e in omega arith)
    go (k ∷ A) e = record { later = A; whole = (let w : Q ≡ A ++ P = cc in w) }

pub Extends-popped : (P Q R : List Literal) (o : Option Literal) → MatchOption o ((Q ≡ []) × (R ≡ [])) (λ l. Q ≡ l ∷ R) → length P < length Q → Extends P Q → Extends P R
Extends-popped P Q R None m less h = absurd (let n : length Q ≡ length {A = Literal} [] = ap length m.0 in omega arith)
Extends-popped P Q R (Some l) m less h = Extends-pop P R l (subst (Extends P) m h) (let n : length Q ≡ length (l ∷ R) = ap length m in omega arith)

pub Extends-nothing : (P : List Literal) → Extends [] P
Extends-nothing P = record { later = P; whole = sym (append-nil P) }
