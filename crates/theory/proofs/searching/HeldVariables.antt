-- The variables that a formula's clauses hold: where none of them is free and no clause is false, all
-- clauses are true.
use Rattle.std.proofs.Common.{◌≡◌, ℕ, zero, suc, ◌+◌, Bool, true, false, not, ◌&&◌, ◌||◌, ◌≢◌, List, [], ◌∷◌, nat_eq, refl, sym, ap, ◌∙◌, ◌⊎◌, inl, inr, arith, cond, Option, Some, None, filter, All, eqb-true, eq-eqb, option_map}
use Rattle.std.specs.List.{list_any}
use Rattle.std.proofs.lemmas.List.Folds.{list_any-append}
use Rattle.theory.specs.Literals.{Clause, has_var, has_both_signs, IsVariable}
use Rattle.theory.specs.Truth.{Formula, IsFormula, value, is_true_clause, are_true, IsOver}
use Rattle.theory.specs.Status.{is_false}
use Rattle.theory.specs.Trails.{Trail, literals, variables}
use Rattle.theory.specs.Held.{is_held, held, least_held}
use Rattle.theory.specs.Propagation.{least_false}
use Rattle.theory.specs.Search.{values}
use Rattle.theory.proofs.literals.LiteralLemmas.{or-cases, or-left, or-right}
use Rattle.theory.proofs.literals.LiteralSets.{and-true, true_false}
use Rattle.theory.proofs.literals.TrueClauses.{some_sign}
use Rattle.theory.proofs.searching.Invariants.{IsAmong}
use Rattle.theory.proofs.searching.BestVariables.{from-filter, in-variables, none-among}
use Rattle.theory.proofs.searching.ModelLemmas.{clause-assigned}

-- a held variable is one of the formula
pub held-variable : (F : Formula) (v : ℕ) → IsAmong (held F) v → IsVariable F.vars v
held-variable F v h = in-variables F.vars v (from-filter (is_held F.clauses) (variables F.vars) v h).0

pub held-is : (F : Formula) (v : ℕ) → IsAmong (held F) v → is_held F.clauses v ≡ true
held-is F v h = (from-filter (is_held F.clauses) (variables F.vars) v h).1

variables-has : (V v : ℕ) → IsVariable V v → list_any (nat_eq v) (variables V) ≡ true
variables-has zero v h = absurd (let a = h.0 in let b = h.1 in omega arith)
variables-has (suc V) v h = list_any-append (nat_eq v) (variables V) (suc V ∷ []) ∙ go (nat_eq v (suc V)) refl (λ r. variables-has V v r)
  where
    go : (b : Bool) → nat_eq v (suc V) ≡ b → (IsVariable V v → list_any (nat_eq v) (variables V) ≡ true) → list_any (nat_eq v) (variables V) || list_any (nat_eq v) (suc V ∷ []) ≡ true
    go true e more = or-right (list_any (nat_eq v) (variables V)) (list_any (nat_eq v) (suc V ∷ [])) (or-left (nat_eq v (suc V)) false e)
    go false e more =
        let ne : v ≢ suc V = λ q. (let y = eq-eqb v (suc V) q in cc) in
        let a = h.0 in
        let b = h.1 in
        or-left (list_any (nat_eq v) (variables V)) (list_any (nat_eq v) (suc V ∷ [])) (more (a, omega arith))

filter-among : (p : ℕ → Bool) (vs : List ℕ) (v : ℕ) → list_any (nat_eq v) vs ≡ true → p v ≡ true → list_any (nat_eq v) (filter p vs) ≡ true
filter-among p [] v h t = h
filter-among p (w ∷ vs) v h t = go (p w) refl (or-cases (nat_eq v w) (list_any (nat_eq v) vs) h) (λ r. filter-among p vs v r t)
  where
    go : (b : Bool) → p w ≡ b → (nat_eq v w ≡ true) ⊎ (list_any (nat_eq v) vs ≡ true) → (list_any (nat_eq v) vs ≡ true → list_any (nat_eq v) (filter p vs) ≡ true)
        → list_any (nat_eq v) (cond b (w ∷ filter p vs) (filter p vs)) ≡ true
    go true e (inl i) more = or-left (nat_eq v w) (list_any (nat_eq v) (filter p vs)) i
    go true e (inr r) more = or-right (nat_eq v w) (list_any (nat_eq v) (filter p vs)) (more r)
    go false e (inl i) more = true_false (p v) t (ap p (eqb-true v w i) ∙ e)
    go false e (inr r) more = more r

pub held-has : (F : Formula) (v : ℕ) → IsVariable F.vars v → is_held F.clauses v ≡ true → IsAmong (held F) v
held-has F v r h = filter-among (is_held F.clauses) (variables F.vars) v (variables-has F.vars v r) h

-- where no held variable is free each is on the trail
all_held : (F : Formula) (T : Trail) (v : ℕ) → least_held F T ≡ None → IsVariable F.vars v → is_held F.clauses v ≡ true → has_var (literals T) v ≡ true
all_held F T v none r h = go (has_var (literals T) v) (none-among (λ x. not (has_var (literals T) x)) (held F) v none (held-has F v r h))
  where
    go : (b : Bool) → not b ≡ false → b ≡ true
    go true q = refl
    go false q = sym q

held-true : (V : ℕ) (T : Trail) (K : List Clause) → ((v : ℕ) → IsVariable V v → is_held K v ≡ true → has_var (literals T) v ≡ true) → All (IsOver V) K → least_false (literals T) K ≡ None
    → are_true (value (values V T)) K ≡ true
held-true V T [] f o h = refl
held-true V T (c ∷ K) f o h = go (is_false (literals T) c) refl h (held-true V T K rest (λ k d i. o (suc k) d (omega arith)))
  where
    m : ℕ → Bool
    m = value (values V T)

    rest : (v : ℕ) → IsVariable V v → is_held K v ≡ true → has_var (literals T) v ≡ true
    rest v r k = f v r (or-right (has_var c v && not (has_both_signs c)) (is_held K v) k)

    this : is_false (literals T) c ≡ false → is_true_clause m c ≡ true
    this e = either (has_both_signs c) refl
      where
        either : (b : Bool) → has_both_signs c ≡ b → is_true_clause m c ≡ true
        either true q = some_sign m c c (λ l a. a) q
        either false q =
            clause-assigned V T c (λ v r a. f v r (or-left (has_var c v && not (has_both_signs c)) (is_held K v) (and-true (has_var c v) (not (has_both_signs c)) a (ap not q)))) (o 0 c (omega arith)) e

    none : (x : Option ℕ) → option_map (λ n. n + 1) x ≡ None → x ≡ None
    none None q = refl
    none (Some n) q = absurd (cc)

    go : (b : Bool) → is_false (literals T) c ≡ b → ◌≡◌ {A = Option ℕ} (elim b [ true ↦ Some 1 | false ↦ option_map (λ n. n + 1) (least_false (literals T) K) ]) None
        → (least_false (literals T) K ≡ None → are_true m K ≡ true) → are_true m (c ∷ K) ≡ true
    go true e q more = absurd (cc)
    go false e q more = and-true (is_true_clause m c) (are_true m K) (this e) (more (none (least_false (literals T) K) q))

pub quiet-held : (F : Formula) (T : Trail) → least_held F T ≡ None → IsFormula F → least_false (literals T) F.clauses ≡ None → are_true (value (values F.vars T)) F.clauses ≡ true
quiet-held F T none formed calm = held-true F.vars T F.clauses (λ v r h. all_held F T v none r h) formed calm
