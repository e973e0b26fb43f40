-- Additions: what is held true at first, and what the hints come to.
use Rattle.std.proofs.Common.{◌≡◌, ℕ, zero, suc, ◌<◌, ◌≤◌, ◌⊎◌, Bool, true, false, not, ◌||◌, List, [], ◌∷◌, length, Option, Some, None, cond, nat_eq, nat_le, nat_lt, eqb-true, refl, ap, sym, subst, ◌∙◌, inl, inr, get_or, arith}
use Rattle.std.specs.List.{list_any}
use Rattle.std.proofs.lemmas.Bool.{leb-true}
use Rattle.theory.specs.Literals.{Literal, Clause, same, has, has_var, has_both_signs, negated, negations, without}
use Rattle.theory.specs.Truth.{IsOver}
use Rattle.theory.specs.Steps.{Group, Addition}
use Rattle.theory.specs.ProofReading.{IsLiteral}
use Rattle.theory.specs.Checking.{Numbered, Fault, take_hints, is_closed, rup_fault, hints_fault, hint_after_conflict, id_not_rising, literal_out_of_range, both_signs, addition_fault, is_empty}
use Rattle.theory.proofs.literals.LiteralLemmas.{same-eq}
use Rattle.theory.proofs.literals.LiteralSets.{false_unless, or-false_left, or-false_right, has-tail, has-cases, has-equal, has_var-none, other-same, negated-negated, has-negations, has-from_negations}
use Rattle.lrat.specs.Assumed.{IsAssumed, AreSame}
use Rattle.lrat.proofs.StreamLemmas.{lt-true, lt-false}
use Rattle.lrat.proofs.SameLiterals.{AreSame-by, take_hints-same, hints_fault-same}

any-nothing : (d : Clause) → list_any (has []) d ≡ false
any-nothing [] = refl
any-nothing (l ∷ d) = any-nothing d

pub closed-nothing : (q : Literal) (d : Clause) → is_closed [] q d ≡ has_both_signs d
closed-nothing q d = ap (λ b. has_both_signs d || b) (any-nothing (without d q)) ∙ right (has_both_signs d)
  where
    right : (b : Bool) → b || false ≡ b
    right true = refl
    right false = refl

pub pivot-free : (q : Literal) (c : Clause) (Q : List Literal) → IsAssumed [] q c Q → has_var Q q.var ≡ false
pivot-free q c Q h = has_var-none Q q.var (λ l a v. elim (h.no_more l a) [
  | inl b ↦ absurd (cc)
  | inr b ↦ other-same q (negated l) b.1 (sym (h.alone (negated l) b.0 v))
])

pub negations-put : (q : Literal) (c : Clause) (Q : List Literal) → has c q ≡ true → IsAssumed [] q c Q → AreSame (negations c) (negated q ∷ Q)
negations-put q c Q there h = AreSame-by (negations c) (negated q ∷ Q) to from
  where
    to : (l : Literal) → has (negations c) l ≡ true → has (negated q ∷ Q) l ≡ true
    to l a = go (same q (negated l)) refl
      where
        go : (b : Bool) → same q (negated l) ≡ b → has (negated q ∷ Q) l ≡ true
        go true e = has-equal (negated q) l Q (sym (negated-negated l) ∙ ap negated (sym (same-eq q (negated l) e)))
        go false e = has-tail (negated q) l Q (subst (λ k. has Q k ≡ true) (negated-negated l) (h.negations (negated l) (has-from_negations c l a) e))

    from : (l : Literal) → has (negated q ∷ Q) l ≡ true → has (negations c) l ≡ true
    from l a = elim (has-cases (negated q) l Q a) [
      | inl e ↦ subst (λ k. has (negations c) k ≡ true) (sym e) (has-negations c q there)
      | inr b ↦ elim (h.no_more l b) [
        | inl d ↦ absurd (cc)
        | inr d ↦ subst (λ k. has (negations c) k ≡ true) (negated-negated l) (has-negations c (negated l) d.0)
      ]
    ]

-- an addition whose first tests pass comes to what its hints come to
pub addition-taken : (V last : ℕ) (K : Numbered) (a : Addition) (P : List Literal) → nat_le a.id last ≡ false → list_any (λ l. not (nat_le l.var V)) a.clause ≡ false
    → has_both_signs a.clause ≡ false → AreSame (negations a.clause) P → hints_fault K a (take_hints K P a.hints) ≡ addition_fault V last K a
addition-taken V last K a P rising over signs same =
    sym (ap (λ b. cond b (Some id_not_rising) (cond (list_any (λ l. not (nat_le l.var V)) a.clause) (Some literal_out_of_range) (cond (has_both_signs a.clause) (Some both_signs) (hints_fault K a (take_hints K (negations a.clause) a.hints))))) rising
    ∙ (ap (λ b. cond b (Some literal_out_of_range) (cond (has_both_signs a.clause) (Some both_signs) (hints_fault K a (take_hints K (negations a.clause) a.hints)))) over
    ∙ (ap (λ b. cond b (Some both_signs) (hints_fault K a (take_hints K (negations a.clause) a.hints))) signs
    ∙ hints_fault-same K a (take_hints K (negations a.clause) a.hints) (take_hints K P a.hints) (take_hints-same K (negations a.clause) P a.hints same))))

pub rup-none : (gs : List Group) → nat_eq (length gs) 0 ≡ true → rup_fault gs ≡ None
rup-none [] h = refl
rup-none (g ∷ gs) h = absurd (let n : length (g ∷ gs) ≡ 0 = eqb-true (length (g ∷ gs)) 0 h in omega arith)

pub rup-some : (gs : List Group) → nat_eq (length gs) 0 ≡ false → rup_fault gs ≡ Some hint_after_conflict
rup-some [] h = absurd (cc)
rup-some (g ∷ gs) h = refl

-- g is the greatest variable of a clause: there are as many now, or enough, or it is none within W
pub room-made : (W g n : ℕ) (c : Clause) → ((v : ℕ) → list_any (λ l. not (nat_le l.var v)) c ≡ nat_lt v g) → n ≡ g → g ≤ W → list_any (λ l. not (nat_le l.var n)) c ≡ list_any (λ l. not (nat_le l.var W)) c
room-made W g n c most is fits = most n ∙ (lt-false n g (omega (arith, is)) ∙ (sym (lt-false W g fits) ∙ sym (most W)))

pub room-there : (V W g : ℕ) (c : Clause) → ((v : ℕ) → list_any (λ l. not (nat_le l.var v)) c ≡ nat_lt v g) → V ≤ W → (g ≤ V) ⊎ (W < g) → list_any (λ l. not (nat_le l.var V)) c ≡ list_any (λ l. not (nat_le l.var W)) c
room-there V W g c most more (inl low) = most V ∙ (lt-false V g low ∙ (sym (lt-false W g (omega (arith, low, more))) ∙ sym (most W)))
room-there V W g c most more (inr high) = most V ∙ (lt-true V g (omega (arith, high, more)) ∙ (sym (lt-true W g high) ∙ sym (most W)))

-- whether the addition has another variable is all that their number decides
pub fault-over : (V W last : ℕ) (K : Numbered) (a : Addition) → list_any (λ l. not (nat_le l.var V)) a.clause ≡ list_any (λ l. not (nat_le l.var W)) a.clause → addition_fault V last K a ≡ addition_fault W last K a
fault-over V W last K a same =
    ap (λ b. cond (nat_le a.id last) (Some id_not_rising) (cond b (Some literal_out_of_range) (cond (has_both_signs a.clause) (Some both_signs) (hints_fault K a (take_hints K (negations a.clause) a.hints))))) same

-- what an addition without a fault has
pub passed : (V last : ℕ) (K : Numbered) (a : Addition) → None ≡ addition_fault V last K a → (nat_le a.id last ≡ false) × (list_any (λ l. not (nat_le l.var V)) a.clause ≡ false)
passed V last K a h =
    go (nat_le a.id last) (list_any (λ l. not (nat_le l.var V)) a.clause) (cond (has_both_signs a.clause) (Some both_signs) (hints_fault K a (take_hints K (negations a.clause) a.hints))) h
  where
    go : (x y : Bool) (r : Option Fault) → None ≡ cond x (Some id_not_rising) (cond y (Some literal_out_of_range) r) → (x ≡ false) × (y ≡ false)
    go true y r e = absurd (cc)
    go false true r e = absurd (cc)
    go false false r e = (refl, refl)

pub is_empty-length : (c : Clause) → nat_eq (length c) 0 ≡ is_empty c
is_empty-length [] = refl
is_empty-length (l ∷ c) = false_unless (nat_eq (length (l ∷ c)) 0) (λ t. let n : length (l ∷ c) ≡ 0 = eqb-true (length (l ∷ c)) 0 t in absurd (omega arith))

-- the literals are over the variables
pub over-passed : (V : ℕ) (c : Clause) → list_any (λ l. not (nat_le l.var V)) c ≡ false → ((k : ℕ) (d : Literal) → k < length c → IsLiteral (get_or c k d)) → IsOver V c
over-passed V [] h lits k d less = absurd (omega arith)
over-passed V (l ∷ c) h lits zero d less = ((lits zero d less).0, leb-true l.var V (held (nat_le l.var V) (or-false_left (not (nat_le l.var V)) (list_any (λ k. not (nat_le k.var V)) c) h)))
  where
    held : (b : Bool) → not b ≡ false → b ≡ true
    held true e = refl
    held false e = sym e
over-passed V (l ∷ c) h lits (suc k) d less = over-passed V c (or-false_right (not (nat_le l.var V)) (list_any (λ l. not (nat_le l.var V)) c) h) (λ j e low. lits (suc j) e (omega arith)) k d (omega arith)

pub some-length : (c : Clause) → nat_eq (length c) 0 ≡ false → 0 < length c
some-length [] h = absurd (cc)
some-length (l ∷ c) h = omega arith
