-- The truth values of variables on a lawful trail.
use Rattle.std.proofs.Common.{◌≡◌, ℕ, suc, ◌+◌, add-one, Bool, true, false, List, [], ◌∷◌, ◌++◌, map, Option, Some, None, refl, ap, sym, subst, ◌∙◌, cond, nat_eq, eqb-true, option_map, unwrap_or}
use Rattle.theory.specs.Literals.{Literal, Clause, has, positive}
use Rattle.theory.specs.Trails.{Trail, Entry, literals, entry_of, variables}
use Rattle.theory.specs.Lawful.{IsLawful}
use Rattle.std.proofs.lemmas.List.{map-append}
use Rattle.theory.proofs.literals.LiteralSets.{has-head, has-tail, true_false}
use Rattle.theory.proofs.trails.TrailEntries.{entry_of_literal, entry_of-at}

-- the entry of a variable is on the trail
pub entry_of-there : (T : Trail) (v : ℕ) (e : Entry) → entry_of T v ≡ Some e → (e.lit.var ≡ v) × (has (literals T) e.lit ≡ true)
entry_of-there [] v e h = absurd (cc)
entry_of-there (d ∷ T) v e h = go (nat_eq d.lit.var v) refl h (entry_of-there T v e)
  where
    go : (b : Bool) → nat_eq d.lit.var v ≡ b → cond b (Some d) (entry_of T v) ≡ Some e → (entry_of T v ≡ Some e → (e.lit.var ≡ v) × (has (literals T) e.lit ≡ true))
        → (e.lit.var ≡ v) × (has (d.lit ∷ literals T) e.lit ≡ true)
    go true q k more = let one : d ≡ e = cc in (subst (λ (x : Entry). x.lit.var ≡ v) one (eqb-true d.lit.var v q), subst (λ (x : Entry). has (d.lit ∷ literals T) x.lit ≡ true) one (has-head d.lit (literals T)))
    go false q k more = let tail = more k in (tail.0, has-tail d.lit e.lit (literals T) tail.1)

-- a variable is true where the literal of its entry is positive
pub has-value : (K : List Clause) (T : Trail) (v : ℕ) → IsLawful K T → has (literals T) (positive v) ≡ unwrap_or (option_map (λ (e : Entry). e.lit.positive) (entry_of T v)) false
has-value K T v lawful = go (has (literals T) (positive v)) refl (entry_of T v) refl
  where
    there : has (literals T) (positive v) ≡ true → (e : Entry) × (entry_of T v ≡ Some e) × (e.lit ≡ positive v)
    there h =
        let f = entry_of_literal T (positive v) h in
        (f.0, subst (λ (l : Literal). entry_of T l.var ≡ Some f.0) f.2 (entry_of-at K T f.0 lawful f.1), f.2)

    positive_is : (l : Literal) → l.var ≡ v → l.positive ≡ true → l ≡ positive v
    positive_is l p q = ap (λ (x : ℕ). record { var = x; positive = l.positive }) p ∙ ap (λ (b : Bool). record { var = v; positive = b }) q

    none : (e : Entry) (b : Bool) → e.lit.positive ≡ b → entry_of T v ≡ Some e → has (literals T) (positive v) ≡ false → false ≡ b
    none e false p q h = refl
    none e true p q h =
        let at = entry_of-there T v e q in
        absurd (true_false (has (literals T) (positive v)) (subst (λ l. has (literals T) l ≡ true) (positive_is e.lit at.0 p) at.1) h)

    go : (b : Bool) → has (literals T) (positive v) ≡ b → (o : Option Entry) → entry_of T v ≡ o → b ≡ unwrap_or (option_map (λ (e : Entry). e.lit.positive) o) false
    go true h None q = let t = there h in absurd (let clash : None ≡ Some t.0 = sym q ∙ t.1 in cc)
    go true h (Some e) q = let t = there h in let one : Some e ≡ Some t.0 = sym q ∙ t.1 in let same : e ≡ t.0 = cc in sym (ap (λ (x : Entry). x.lit.positive) same ∙ ap (λ (l : Literal). l.positive) t.2)
    go false h None q = refl
    go false h (Some e) q = none e e.lit.positive refl q h

-- the values of one more variable
pub values-more : (K : List Clause) (T : Trail) (index : ℕ) (before now : List Bool) (b : Bool) → IsLawful K T → before ≡ map (λ v. has (literals T) (positive v)) (variables index)
    → b ≡ unwrap_or (option_map (λ (e : Entry). e.lit.positive) (entry_of T (index + 1))) false → now ≡ before ++ b ∷ [] → now ≡ map (λ v. has (literals T) (positive v)) (variables (index + 1))
values-more K T index before now b lawful h value push =
    let last : b ≡ has (literals T) (positive (index + 1)) = value ∙ sym (has-value K T (index + 1) lawful) in
    rw (push, h, last, add-one) (sym (map-append (λ v. has (literals T) (positive v)) (variables index) (suc index ∷ [])))
