-- What a lawful trail says of literals.
use Rattle.std.proofs.Common.{◌≡◌, ℕ, ◌≤◌, Bool, true, false, List, Option, Some, None, refl, ap, sym, subst, ◌∙◌, option_map, is_some, inl, inr, arith}
use mathlib.Core.Bool.{beq}
use Rattle.std.proofs.lemmas.List.Elements.{All-weaker}
use Rattle.theory.specs.Literals.{Literal, Clause, IsVariable, has, has_var, negated}
use Rattle.theory.specs.Truth.{IsOver}
use Rattle.theory.specs.Trails.{Trail, Entry, literals, entry_of}
use Rattle.theory.specs.Lawful.{IsLawful}
use Rattle.theory.proofs.literals.LiteralSets.{true_false, false_unless, has_var-has, same_variable}
use Rattle.theory.proofs.trails.TrailEntries.{literals-distinct}
use Rattle.cdcl.proofs.TrailValues.{entry_of-there}
use Rattle.cdcl.proofs.WaitingLemmas.{free-none}

literal-is : (k l : Literal) → k.var ≡ l.var → k.positive ≡ l.positive → k ≡ l
literal-is k l v p i = record { var = v i; positive = p i }

found : (T : Trail) (l : Literal) (e : Entry) → entry_of T l.var ≡ Some e → e.lit.positive ≡ l.positive → has (literals T) l ≡ true
found T l e h p = let at = entry_of-there T l.var e h in subst (λ x. has (literals T) x ≡ true) (literal-is e.lit l at.0 p) at.1

other : (K : List Clause) (T : Trail) (l : Literal) (e : Entry) → IsLawful K T → entry_of T l.var ≡ Some e → (e.lit.positive ≡ l.positive → ⊥) → has (literals T) l ≡ false
other K T l e lawful h differ =
    let at = entry_of-there T l.var e h in
    false_unless (has (literals T) l) (λ t. differ (ap (λ (x : Literal). x.positive) (literals-distinct K T e.lit l lawful at.1 t at.0)))

-- a literal whose variable has this value
pub value-has : (K : List Clause) (T : Trail) (l : Literal) (b : Bool) → IsLawful K T → option_map (λ (e : Entry). e.lit.positive) (entry_of T l.var) ≡ Some b → beq b l.positive ≡ has (literals T) l
value-has K T l b lawful h = go (entry_of T l.var) refl h
  where
    signs : (e : Entry) → entry_of T l.var ≡ Some e → (s t : Bool) → e.lit.positive ≡ s → l.positive ≡ t → beq s t ≡ has (literals T) l
    signs e at true true p q = sym (found T l e at (p ∙ sym q))
    signs e at false false p q = sym (found T l e at (p ∙ sym q))
    signs e at true false p q = sym (other K T l e lawful at (λ same. let clash : true ≡ false = sym p ∙ (same ∙ q) in cc))
    signs e at false true p q = sym (other K T l e lawful at (λ same. let clash : false ≡ true = sym p ∙ (same ∙ q) in cc))

    go : (o : Option Entry) → entry_of T l.var ≡ o → option_map (λ (e : Entry). e.lit.positive) o ≡ Some b → beq b l.positive ≡ has (literals T) l
    go None e q = absurd (cc)
    go (Some d) e q = let is : d.lit.positive ≡ b = cc in ap (λ x. beq x l.positive) (sym is) ∙ signs d e d.lit.positive l.positive refl refl

-- one whose variable is free
pub free-absent : (T : Trail) (l : Literal) → option_map (λ (e : Entry). e.lit.positive) (entry_of T l.var) ≡ None → has (literals T) l ≡ false
free-absent T l h = false_unless (has (literals T) l) (λ t. true_false (has_var (literals T) l.var) (has_var-has (literals T) l t) (free-none T l.var h))

-- one that isn't true, and whose variable isn't free
pub false-there : (T : Trail) (l : Literal) (b : Bool) → option_map (λ (e : Entry). e.lit.positive) (entry_of T l.var) ≡ Some b → has (literals T) l ≡ false → has (literals T) (negated l) ≡ true
false-there T l b h absent = go (entry_of T l.var) refl h
  where
    go : (o : Option Entry) → entry_of T l.var ≡ o → option_map (λ (e : Entry). e.lit.positive) o ≡ Some b → has (literals T) (negated l) ≡ true
    go None e q = absurd (cc)
    go (Some d) e q =
        let at = entry_of-there T l.var d e in
        elim (same_variable d.lit l at.0) [
          | inl one ↦ true_false (has (literals T) l) (subst (λ x. has (literals T) x ≡ true) one at.1) absent
          | inr two ↦ subst (λ x. has (literals T) x ≡ true) two at.1
        ]

pub IsOver-more : (V W : ℕ) (c : Clause) → V ≤ W → IsOver V c → IsOver W c
IsOver-more V W c more h = All-weaker (λ (l : Literal). IsVariable V l.var) (λ (l : Literal). IsVariable W l.var) (λ l v. let high = v.1 in (v.0, omega arith)) c h

-- the same, by whether there is a value
pub false-unless_free : (T : Trail) (l : Literal) (o : Option Bool) → o ≡ option_map (λ (e : Entry). e.lit.positive) (entry_of T l.var) → is_some o ≡ true → has (literals T) l ≡ false → has (literals T) (negated l) ≡ true
false-unless_free T l None is some absent = absurd (cc)
false-unless_free T l (Some b) is some absent = false-there T l b (sym is) absent

pub free-without_value : (T : Trail) (v : ℕ) (o : Option Bool) → o ≡ option_map (λ (e : Entry). e.lit.positive) (entry_of T v) → is_some o ≡ false → has_var (literals T) v ≡ false
free-without_value T v None is none = free-none T v (sym is)
free-without_value T v (Some b) is none = absurd (cc)
