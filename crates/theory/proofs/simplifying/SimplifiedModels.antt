-- A model of the clauses that a simplification leaves, with the eliminated variables' values, is one
-- of the formula.
use Rattle.std.proofs.Common.{◌≡◌, ℕ, zero, suc, ◌+◌, ◌<◌, ◌≤◌, Bool, true, false, ◌&&◌, ◌||◌, List, [], ◌∷◌, refl, ap, ap₂, sym, subst, ◌∙◌, ◌⊎◌, inl, inr, Option, Some, None, unwrap_or, Contains, All, arith}
use Rattle.std.proofs.lemmas.Bool.{cases_eq}
use Rattle.std.proofs.lemmas.List.Elements.{All-nil, All-cons, All-head, All-tail}
use Rattle.theory.specs.Literals.{Clause, same_sign, positive, negative, IsVariable}
use Rattle.theory.specs.Truth.{Formula, Assignment, IsOver, IsFormula, Satisfies, value, is_true_clause, are_true}
use Rattle.theory.specs.Forgetting.{forgotten}
use Rattle.theory.specs.Checking.{clause_of}
use Rattle.theory.specs.Proofs.{numbers_from}
use Rattle.theory.specs.Simplifying.{AreNumbered, Simplified, clauses_in, kept_clauses, simplified_formula, extended, extended_model, IsSimplificationOf}
use Rattle.theory.proofs.literals.Membership.{All-from, All-at, Contains-here, Contains-there, Contains-map, map-Contains}
use Rattle.theory.proofs.searching.MappedVariables.{at-variable, length-mapped}
use Rattle.theory.proofs.simplifying.ListTests.{all-at, all-from}
use Rattle.theory.proofs.simplifying.Elimination.{entry-there, are_true-entries}
use Rattle.theory.proofs.simplifying.Simplifications.{AllTrue-from_are_true, clause_of-there}

-- truth values that agree on a clause's variables
clause-agrees : (V : ℕ) (m n : ℕ → Bool) (c : Clause) → IsOver V c → ((v : ℕ) → IsVariable V v → m v ≡ n v) → is_true_clause m c ≡ is_true_clause n c
clause-agrees V m n [] over same = refl
clause-agrees V m n (l ∷ c) over same =
    ap₂ (λ a b. same_sign l.positive a || b) (same l.var (All-head (λ k. IsVariable V k.var) l c over)) (clause-agrees V m n c (All-tail (λ k. IsVariable V k.var) l c over) same)

clauses-agree : (V : ℕ) (m n : ℕ → Bool) (K : List Clause) → All (IsOver V) K → ((v : ℕ) → IsVariable V v → m v ≡ n v) → are_true m K ≡ are_true n K
clauses-agree V m n [] over same = refl
clauses-agree V m n (c ∷ K) over same =
    ap₂ (λ a b. a && b) (clause-agrees V m n c (All-head (IsOver V) c K over) same) (clauses-agree V m n K (All-tail (IsOver V) c K over) same)

-- the forgotten clause is true
forgotten-true : (m : ℕ → Bool) → is_true_clause m forgotten ≡ true
forgotten-true m = go (m 1)
  where
    go : (b : Bool) → same_sign true b || (same_sign false b || false) ≡ true
    go true = refl
    go false = refl

pub numbers_from-has : (n count k : ℕ) → n ≤ k → k < n + count → Contains (numbers_from n count) k
numbers_from-has n zero k low high = absurd (omega arith)
numbers_from-has n (suc count) k low high = go (cases_eq k n) (numbers_from-has (n + 1) count k)
  where
    go : (k ≡ n) ⊎ (k ≡ n → ⊥) → (n + 1 ≤ k → k < n + 1 + count → Contains (numbers_from (n + 1) count) k) → Contains (n ∷ numbers_from (n + 1) count) k
    go (inl e) more = subst (λ i. Contains (i ∷ numbers_from (n + 1) count) k) e (Contains-here k (numbers_from (n + 1) count))
    go (inr other) more = Contains-there n (numbers_from (n + 1) count) k (more (omega (arith, other)) (omega arith))

kept : Simplified → ℕ → Clause
kept s n = unwrap_or (clause_of s.clauses n) forgotten

-- what is there is in the list
pub entry-kept : (s : Simplified) (e : ℕ × Clause) → AreNumbered s.last s.clauses → Contains s.clauses e → Contains (kept_clauses s) e.1
unfolding kept
entry-kept s e h c =
    let at : clause_of s.clauses e.0 ≡ Some e.1 = h.alone e c in
    let w = h.within e.0 e.1 at in
    let low = w.0 in
    let high = w.1 in
    subst (Contains (kept_clauses s)) (ap (λ o. unwrap_or o forgotten) at) (Contains-map (kept s) (numbers_from 1 s.last) e.0 (numbers_from-has 1 s.last e.0 low (omega arith)))

there-from_kept : (F : Formula) (s : Simplified) (m : ℕ → Bool) → IsSimplificationOf F s → are_true m (kept_clauses s) ≡ true → are_true m (clauses_in s.clauses) ≡ true
there-from_kept F s m h t = are_true-entries m s.clauses (λ e c. all-at (is_true_clause m) (kept_clauses s) e.1 t (entry-kept s e h.numbered c))

kept-from_there : (s : Simplified) (m : ℕ → Bool) → are_true m (clauses_in s.clauses) ≡ true → are_true m (kept_clauses s) ≡ true
unfolding kept
kept-from_there s m t = all-from (is_true_clause m) (kept_clauses s) (λ c a. at c (map-Contains (kept s) (numbers_from 1 s.last) c a))
  where
    go : (n : ℕ) (o : Option Clause) → clause_of s.clauses n ≡ o → is_true_clause m (unwrap_or o forgotten) ≡ true
    go n None e = forgotten-true m
    go n (Some c) e = AllTrue-from_are_true m s.clauses t n c e

    at : (c : Clause) → (n : ℕ) × Contains (numbers_from 1 s.last) n × (kept s n ≡ c) → is_true_clause m c ≡ true
    at c f = ap (is_true_clause m) (sym f.2) ∙ go f.0 (clause_of s.clauses f.0) refl

pub are_true-kept_clauses : (F : Formula) (s : Simplified) (m : ℕ → Bool) → IsSimplificationOf F s → are_true m (kept_clauses s) ≡ are_true m (clauses_in s.clauses)
are_true-kept_clauses F s m h = go (are_true m (kept_clauses s)) refl (are_true m (clauses_in s.clauses)) refl
  where
    go : (a : Bool) → are_true m (kept_clauses s) ≡ a → (b : Bool) → are_true m (clauses_in s.clauses) ≡ b → a ≡ b
    go true e true f = refl
    go false e false f = refl
    go true e false f = absurd (let t = there-from_kept F s m h e in cc)
    go false e true f = absurd (let t = kept-from_there s m f in cc)

-- the list is one over the formula's variables
pub IsFormula-simplified : (F : Formula) (s : Simplified) → IsSimplificationOf F s → 1 ≤ F.vars → IsFormula (simplified_formula F s)
unfolding kept
IsFormula-simplified F s h some = All-from (IsOver F.vars) (kept_clauses s) (λ c a. at c (map-Contains (kept s) (numbers_from 1 s.last) c a))
  where
    forgotten-over : IsOver F.vars forgotten
    forgotten-over = All-cons (λ l. IsVariable F.vars l.var) (positive 1) (negative 1 ∷ []) (omega arith, some)
        (All-cons (λ l. IsVariable F.vars l.var) (negative 1) [] (omega arith, some) (All-nil (λ l. IsVariable F.vars l.var)))

    go : (n : ℕ) (o : Option Clause) → clause_of s.clauses n ≡ o → IsOver F.vars (unwrap_or o forgotten)
    go n None e = forgotten-over
    go n (Some c) e = All-at (IsOver F.vars) (clauses_in s.clauses) c h.over (entry-there s.clauses (n, c) (clause_of-there s.clauses n c e))

    at : (c : Clause) → (n : ℕ) × Contains (numbers_from 1 s.last) n × (kept s n ≡ c) → IsOver F.vars c
    at c f = subst (IsOver F.vars) f.2 (go f.0 (clause_of s.clauses f.0) refl)

-- A model extends to one of the formula.
pub Satisfies-extended_model : (F : Formula) (s : Simplified) (M : Assignment) → IsFormula F → IsSimplificationOf F s → Satisfies (simplified_formula F s) M
    → Satisfies F (extended_model F.vars s.eliminated M)
Satisfies-extended_model F s M formed h sat = record {
  values = length-mapped (extended (value M) s.eliminated) F.vars;
  clauses = clauses-agree F.vars (value (extended_model F.vars s.eliminated M)) (extended (value M) s.eliminated) F.clauses formed
      (λ v w. at-variable (extended (value M) s.eliminated) F.vars v false w)
      ∙ h.extends (value M) (there-from_kept F s (value M) h sat.clauses);
}

-- and one of the formula is a model
pub Satisfies-simplified : (F : Formula) (s : Simplified) (M : Assignment) → IsSimplificationOf F s → Satisfies F M → Satisfies (simplified_formula F s) M
Satisfies-simplified F s M h sat = record { values = sat.values; clauses = kept-from_there s (value M) (h.follows (value M) sat.clauses) }
