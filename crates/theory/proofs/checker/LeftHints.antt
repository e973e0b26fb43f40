-- Hints come to a conflict without the forgotten clauses too: where no variable is held true in both
-- signs, such a clause is never false and never unit, so no hint names it.
use Rattle.std.proofs.Common.{◌≡◌, ℕ, Bool, true, false, not, ◌&&◌, List, [], ◌∷◌, map, refl, ap, sym, subst, ◌∙◌, ◌⊎◌, inl, inr, cond, Option, Some, None, if◌then◌else◌}
use Rattle.std.specs.List.{list_any}
use Rattle.theory.specs.Literals.{Literal, Clause, positive, negative, negated, negations, has, has_var, has_both_signs}
use Rattle.theory.specs.Status.{is_false, others_false, unit_literal}
use Rattle.theory.specs.Forgetting.{forgotten}
use Rattle.theory.specs.Checking.{Numbered, clause_of, false_clause, not_unit, hint, unit_hint, take_hints, conflicts, end_at_conflict}
use Rattle.theory.proofs.literals.LiteralLemmas.{true_or_false, or-left, or-right}
use Rattle.theory.proofs.literals.LiteralSets.{true_false, false_unless, has-cases, has-from_negations, has_var-has, Refutes-from_is_false}
use Rattle.theory.proofs.literals.ClauseLemmas.{unit-fresh}
use Rattle.theory.proofs.checker.Hints.{take_on}

-- no literal is there together with its negation
abbrev pub AreConsistent : List Literal → Type 0
AreConsistent P = (l : Literal) → has P l ≡ true → has P (negated l) ≡ true → ⊥

-- the forgotten clause
forgotten-hint : (P : List Literal) → AreConsistent P → hint P (Some forgotten) ≡ not_unit
forgotten-hint P apart = go (is_false P forgotten) not_false (unit_literal P forgotten) none
  where
    not_false : is_false P forgotten ≡ false
    not_false = false_unless (is_false P forgotten) (λ t. let r = Refutes-from_is_false P forgotten t in apart (positive 1) (r (negative 1) refl) (r (positive 1) refl))

    both : (v x y : Bool) → (v ≡ true) ⊎ ((x ≡ false) × (y ≡ false)) → ◌≡◌ {A = Option Literal} (cond (not v && x) (Some (positive 1)) (cond (not v && y) (Some (negative 1)) None)) None
    both true x y h = refl
    both false x y (inl e) = absurd (cc)
    both false x y (inr e) = rw (e.0, e.1) refl

    lacks : has_var P 1 ≡ false → (others_false P forgotten (positive 1) ≡ false) × (others_false P forgotten (negative 1) ≡ false)
    lacks h =
        let first : has P (positive 1) ≡ false = false_unless (has P (positive 1)) (λ t. true_false (has_var P 1) (has_var-has P (positive 1) t) h) in
        let second : has P (negative 1) ≡ false = false_unless (has P (negative 1)) (λ t. true_false (has_var P 1) (has_var-has P (negative 1) t) h) in
        (ap (λ b. b && true) first, ap (λ b. b && true) second)

    none : unit_literal P forgotten ≡ None
    none = elim (true_or_false (has_var P 1)) [
      | inl t ↦ both (has_var P 1) (others_false P forgotten (positive 1)) (others_false P forgotten (negative 1)) (inl t)
      | inr f ↦ both (has_var P 1) (others_false P forgotten (positive 1)) (others_false P forgotten (negative 1)) (inr (lacks f))
    ]

    go : (b : Bool) → b ≡ false → (o : Option Literal) → o ≡ None → (if b then false_clause else unit_hint o) ≡ not_unit
    go b e o f = rw (e, f) refl

-- one more literal, of a new variable
AreConsistent-more : (P : List Literal) (l : Literal) → has_var P l.var ≡ false → AreConsistent P → AreConsistent (l ∷ P)
AreConsistent-more P l new apart k a b = go (has-cases l k P a) (has-cases l (negated k) P b)
  where
    sign : (b : Bool) → b ≡ not b → ⊥
    sign true e = cc
    sign false e = cc

    go : (k ≡ l) ⊎ (has P k ≡ true) → (negated k ≡ l) ⊎ (has P (negated k) ≡ true) → ⊥
    go (inl i) (inl j) = sign k.positive (ap (λ (x : Literal). x.positive) (i ∙ sym j))
    go (inl i) (inr j) = true_false (has_var P l.var) (subst (λ v. has_var P v ≡ true) (ap (λ (x : Literal). x.var) i) (has_var-has P (negated k) j)) new
    go (inr i) (inl j) = true_false (has_var P l.var) (subst (λ v. has_var P v ≡ true) (ap (λ (x : Literal). x.var) j) (has_var-has P k i)) new
    go (inr i) (inr j) = apart k i j

-- the same clauses under other numbers, but for forgotten ones
pub take_hints-left : (there here : Numbered) (f : ℕ → ℕ) (P : List Literal) (ns : List ℕ) → AreConsistent P
    → ((n : ℕ) (d : Clause) → clause_of there n ≡ Some d → (clause_of here (f n) ≡ Some d) ⊎ (d ≡ forgotten))
    → take_hints there P ns ≡ conflicts → take_hints here P (map f ns) ≡ conflicts
unfolding take_on
take_hints-left there here f P [] apart moved h = absurd (cc)
take_hints-left there here f P (n ∷ ns) apart moved h =
    first (clause_of there n) refl h (λ l new. take_hints-left there here f (l ∷ P) ns (AreConsistent-more P l new apart) moved)
  where
    Later : Type 0
    Later = (l : Literal) → has_var P l.var ≡ false → take_hints there (l ∷ P) ns ≡ conflicts → take_hints here (l ∷ P) (map f ns) ≡ conflicts

    ended : (ns : List ℕ) → end_at_conflict ns ≡ conflicts → end_at_conflict (map f ns) ≡ conflicts
    ended [] k = refl
    ended (m ∷ ms) k = absurd (cc)

    unit : (d : Clause) (o : Option Literal) → unit_literal P d ≡ o → take_on there P ns (unit_hint o) ≡ conflicts → Later → take_on here P (map f ns) (unit_hint o) ≡ conflicts
    unit d None u k more = absurd (cc)
    unit d (Some l) u k more = more l (unit-fresh P d l u) k

    second : (d : Clause) (b : Bool) → is_false P d ≡ b → take_on there P ns (if b then false_clause else unit_hint (unit_literal P d)) ≡ conflicts → Later
        → take_on here P (map f ns) (if b then false_clause else unit_hint (unit_literal P d)) ≡ conflicts
    second d true e k more = ended ns k
    second d false e k more = unit d (unit_literal P d) refl k more

    lost : (d : Clause) → d ≡ forgotten → take_on there P ns (hint P (Some d)) ≡ conflicts → take_hints here P (f n ∷ map f ns) ≡ conflicts
    lost d e k = absurd (let none : hint P (Some d) ≡ not_unit = ap (λ c. hint P (Some c)) e ∙ forgotten-hint P apart in let gone = sym (ap (take_on there P ns) none) ∙ k in cc)

    first : (o : Option Clause) → clause_of there n ≡ o → take_on there P ns (hint P o) ≡ conflicts → Later → take_hints here P (f n ∷ map f ns) ≡ conflicts
    first None e k more = absurd (cc)
    first (Some d) e k more = elim (moved n d e) [
      | inl at ↦ ap (λ o. take_on here P (map f ns) (hint P o)) at ∙ second d (is_false P d) refl k more
      | inr lose ↦ lost d lose k
    ]

-- the negations of a clause without a variable in both signs
pub found : (c : Clause) (d : List Literal) (l : Literal) → has d l ≡ true → has c (negated l) ≡ true → list_any (λ l. has c (negated l)) d ≡ true
found c [] l a b = absurd (cc)
found c (k ∷ d) l a b = elim (has-cases k l d a) [
  | inl s ↦ or-left (has c (negated k)) (list_any (λ l. has c (negated l)) d) (subst (λ y. has c (negated y) ≡ true) s b)
  | inr r ↦ or-right (has c (negated k)) (list_any (λ l. has c (negated l)) d) (found c d l r b)
]

pub AreConsistent-negations : (c : Clause) → has_both_signs c ≡ false → AreConsistent (negations c)
AreConsistent-negations c h l a b =
    true_false (has_both_signs c) (found c c (negated l) (has-from_negations c l a) (has-from_negations c (negated l) b)) h
