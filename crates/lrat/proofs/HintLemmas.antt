-- What a clause is, as a hint, and what is taken on.
use Rattle.std.proofs.Common.{◌≡◌, ℕ, ◌+◌, ◌<◌, Bool, true, false, List, ◌∷◌, length, drop, get_or, Option, Some, None, cond, ap, sym, ◌∙◌, add-one}
use Rattle.std.proofs.Math.Seq.{drop-cons}
use Rattle.theory.specs.Literals.{Literal, Clause}
use Rattle.theory.specs.Status.{is_false, unit_literal}
use Rattle.theory.specs.Checking.{Numbered, clause_of, Hint, missing, false_clause, not_unit, unit_in, unit_hint, hint, Taken, fails, no_such_clause, hint_not_unit, end_at_conflict, take_hints}

-- what a clause is, as a hint
pub hint-open : (P : List Literal) (c : Clause) → (is_false P c ≡ false) × (unit_literal P c ≡ None) → not_unit ≡ hint P (Some c)
hint-open P c h = sym (ap (λ b. cond b false_clause (unit_hint (unit_literal P c))) h.0 ∙ ap unit_hint h.1)

pub hint-unit : (P : List Literal) (c : Clause) (l : Literal) → (is_false P c ≡ false) × (unit_literal P c ≡ Some l) → unit_in l ≡ hint P (Some c)
hint-unit P c l h = sym (ap (λ b. cond b false_clause (unit_hint (unit_literal P c))) h.0 ∙ ap unit_hint h.1)

pub unit-hinted : (P : List Literal) (c : Clause) (l : Literal) → unit_in l ≡ hint P (Some c) → unit_literal P c ≡ Some l
unit-hinted P c l h = go (is_false P c) (unit_literal P c) h
  where
    go : (b : Bool) (o : Option Literal) → unit_in l ≡ cond b false_clause (unit_hint o) → o ≡ Some l
    go true o e = absurd (cc)
    go false None e = absurd (cc)
    go false (Some k) e = let same : l ≡ k = cc in ap Some (sym same)

-- the literal of a unit clause is taken on
pub take_hints-unit : (K : Numbered) (P : List Literal) (hints : List ℕ) (i : ℕ) (c : Clause) (l : Literal) → i < length hints → Some c ≡ clause_of K (get_or hints i 0)
    → unit_in l ≡ hint P (Some c) → take_hints K (l ∷ P) (drop (i + 1) hints) ≡ take_hints K P (drop i hints)
take_hints-unit K P hints i c l less there unit =
    let split : drop i hints ≡ get_or hints i 0 ∷ drop (i + 1) hints = rw add-one (drop-cons hints i 0 less) in
    sym (ap (take_hints K P) split ∙ go (hint P (clause_of K (get_or hints i 0))) (ap (hint P) (sym there) ∙ sym unit))
  where
    go : (h : Hint) → h ≡ unit_in l → elim h as (λ _. Taken) [
      | missing ↦ fails no_such_clause
      | false_clause ↦ end_at_conflict (drop (i + 1) hints)
      | not_unit ↦ fails hint_not_unit
      | unit_in k ↦ take_hints K (k ∷ P) (drop (i + 1) hints)
    ] ≡ take_hints K (l ∷ P) (drop (i + 1) hints)
    go missing e = absurd (cc)
    go false_clause e = absurd (cc)
    go not_unit e = absurd (cc)
    go (unit_in k) e = let same : k ≡ l = cc in ap (λ (x : Literal). take_hints K (x ∷ P) (drop (i + 1) hints)) same
