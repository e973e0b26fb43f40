-- The pure literals of a formula: which they are, what makes them true, and that they are over the
-- formula's variables.
use Rattle.std.proofs.Common.{◌≡◌, ℕ, zero, suc, ◌≤◌, Bool, true, false, ◌&&◌, ◌||◌, List, [], ◌∷◌, ◌++◌, map, filter, nat_eq, refl, ap, sym, subst, ◌∙◌, ◌⊎◌, inl, inr, cond, All, arith, eqb-true, eq-eqb, length, length-append, append-nil, ◌+◌}
use Rattle.std.proofs.lemmas.List.{map-append, length-map}
use Rattle.std.proofs.lemmas.List.Elements.{All-nil, All-cons, All-head, All-tail, All-push, All-append, All-map, All-filter, All-weaker, filter-append, filter_passes}
use Rattle.std.proofs.lemmas.List.Folds.{list_all-append}
use Rattle.theory.specs.Literals.{Literal, Clause, has, has_var, positive, negative, negated, IsVariable, IsCube, are_distinct}
use Rattle.theory.specs.Truth.{Formula, IsOver, IsFormula, AreTrue, is_true, is_true_clause, are_true}
use Rattle.theory.specs.Trails.{variables}
use Rattle.theory.specs.Pure.{occurs, is_pure, pure_variables, pure_literals, unit_clauses, pure_units, first_clauses, searched}
use Rattle.theory.proofs.literals.LiteralLemmas.{and-left, and-right, or-left, not_true}
use Rattle.theory.proofs.literals.LiteralSets.{and-true, true_false, has-cases, has-append_left, has-append_right, has-append_cases, has-head, has_var-none}
use Rattle.theory.proofs.trails.TrailEntries.{are_distinct-push}

-- the variables 1 to V
variables-within : (V W : ℕ) → V ≤ W → All (IsVariable W) (variables V)
variables-within zero W h = All-nil (IsVariable W)
variables-within (suc V) W h = All-push (IsVariable W) (variables V) (suc V) (variables-within V W (omega arith)) (omega arith, h)

pub IsVariable-pure : (F : Formula) → All (IsVariable F.vars) (pure_variables F)
IsVariable-pure F = All-filter (is_pure F.clauses) (IsVariable F.vars) (variables F.vars) (variables-within F.vars F.vars (omega arith))

pub IsPure-pure : (F : Formula) → All (λ v. IsVariable F.vars v × (is_pure F.clauses v ≡ true)) (pure_variables F)
IsPure-pure F k v i = (IsVariable-pure F k v i, filter_passes (is_pure F.clauses) (variables F.vars) k v i)

pub IsOver-pure_literals : (F : Formula) → IsOver F.vars (pure_literals F)
IsOver-pure_literals F = All-map (λ l. IsVariable F.vars l.var) negative (pure_variables F) (IsVariable-pure F)

pub IsOver-unit_clauses : (V : ℕ) (ls : List Literal) → IsOver V ls → All (IsOver V) (unit_clauses ls)
IsOver-unit_clauses V ls over = All-map (IsOver V) (λ l. l ∷ []) ls (All-weaker (λ l. IsVariable V l.var) (λ l. IsOver V (l ∷ [])) unit ls over)
  where
    unit : (l : Literal) → IsVariable V l.var → IsOver V (l ∷ [])
    unit l h = All-cons (λ k. IsVariable V k.var) l [] h (All-nil (λ k. IsVariable V k.var))

-- The clauses that a search begins with are over the formula's variables.
pub IsOver-first_clauses : (F : Formula) → IsFormula F → All (IsOver F.vars) (first_clauses F)
IsOver-first_clauses F formed = All-append (IsOver F.vars) F.clauses (pure_units F) formed (IsOver-unit_clauses F.vars (pure_literals F) (IsOver-pure_literals F))

-- And where they are, so are the formula's.
pub IsFormula-searched : (F : Formula) → IsFormula (searched F) → IsFormula F
IsFormula-searched F h = front F.clauses h
  where
    front : (K : List Clause) → All (IsOver F.vars) (K ++ pure_units F) → All (IsOver F.vars) K
    front [] h = All-nil (IsOver F.vars)
    front (c ∷ K) h = All-cons (IsOver F.vars) c K (All-head (IsOver F.vars) c (K ++ pure_units F) h) (front K (All-tail (IsOver F.vars) c (K ++ pure_units F) h))

-- the negations of those of the variables 1 to V that pass the test
abbrev pub negatives : (ℕ → Bool) → ℕ → List Literal
negatives p V = map negative (filter p (variables V))

pub negatives-suc : (p : ℕ → Bool) (V : ℕ) → negatives p (suc V) ≡ negatives p V ++ map negative (filter p (suc V ∷ []))
negatives-suc p V = ap (map negative) (filter-append p (variables V) (suc V ∷ [])) ∙ map-append negative (filter p (variables V)) (filter p (suc V ∷ []))

has-negatives : (p : ℕ → Bool) (V v : ℕ) → IsVariable V v → p v ≡ true → has (negatives p V) (negative v) ≡ true
has-negatives p zero v r h = absurd (let a = r.0 in let b = r.1 in omega arith)
has-negatives p (suc V) v r h = subst (λ c. has c (negative v) ≡ true) (sym (negatives-suc p V)) (go (nat_eq v (suc V)) refl (has-negatives p V v))
  where
    last : v ≡ suc V → (b : Bool) → p (suc V) ≡ b → has (map negative (cond b (suc V ∷ []) [])) (negative v) ≡ true
    last e true q = subst (λ x. has (negative (suc V) ∷ []) (negative x) ≡ true) (sym e) (has-head (negative (suc V)) [])
    last e false q = true_false (p (suc V)) (ap p (sym e) ∙ h) q

    less : nat_eq v (suc V) ≡ false → IsVariable V v
    less q = let differ : v ≡ suc V → ⊥ = λ e. (let y = eq-eqb v (suc V) e in cc) in let a = r.0 in let b = r.1 in (a, omega arith)

    go : (b : Bool) → nat_eq v (suc V) ≡ b → (IsVariable V v → p v ≡ true → has (negatives p V) (negative v) ≡ true)
        → has (negatives p V ++ map negative (filter p (suc V ∷ []))) (negative v) ≡ true
    go true q more = has-append_right (negatives p V) (map negative (filter p (suc V ∷ []))) (negative v) (last (eqb-true v (suc V) q) (p (suc V)) refl)
    go false q more = has-append_left (negatives p V) (map negative (filter p (suc V ∷ []))) (negative v) (more (less q) h)

has-from_negatives : (p : ℕ → Bool) (V : ℕ) (l : Literal) → has (negatives p V) l ≡ true → (l ≡ negative l.var) × IsVariable V l.var × (p l.var ≡ true)
has-from_negatives p zero l h = absurd (cc)
has-from_negatives p (suc V) l h =
    go (has-append_cases (negatives p V) (map negative (filter p (suc V ∷ []))) l (subst (λ c. has c l ≡ true) (negatives-suc p V) h)) (has-from_negatives p V l)
  where
    last : (b : Bool) → p (suc V) ≡ b → has (map negative (cond b (suc V ∷ []) [])) l ≡ true → (l ≡ negative l.var) × IsVariable (suc V) l.var × (p l.var ≡ true)
    last false q a = absurd (cc)
    last true q a = elim (has-cases (negative (suc V)) l [] a) [
      | inl e ↦ (let v : l.var ≡ suc V = ap (λ (x : Literal). x.var) e in (e ∙ ap negative (sym v), (omega arith, omega arith), ap p v ∙ q))
      | inr none ↦ absurd (cc)
    ]

    go : (has (negatives p V) l ≡ true) ⊎ (has (map negative (filter p (suc V ∷ []))) l ≡ true)
        → (has (negatives p V) l ≡ true → (l ≡ negative l.var) × IsVariable V l.var × (p l.var ≡ true)) → (l ≡ negative l.var) × IsVariable (suc V) l.var × (p l.var ≡ true)
    go (inl a) more = let r = more a in (r.0, (r.1.0, let b = r.1.1 in omega arith), r.2)
    go (inr a) more = last (p (suc V)) refl a

-- A pure variable's negation is among the pure literals, and nothing else is.
pub has-pure_literals : (F : Formula) (v : ℕ) → IsVariable F.vars v → is_pure F.clauses v ≡ true → has (pure_literals F) (negative v) ≡ true
has-pure_literals F v = has-negatives (is_pure F.clauses) F.vars v

pub has-from_pure_literals : (F : Formula) (l : Literal) → has (pure_literals F) l ≡ true → (l ≡ negative l.var) × IsVariable F.vars l.var × (is_pure F.clauses l.var ≡ true)
has-from_pure_literals F l = has-from_negatives (is_pure F.clauses) F.vars l

-- They have distinct variables, and there are at most as many as the formula has.
are_distinct-negatives : (p : ℕ → Bool) (V : ℕ) → are_distinct (negatives p V) ≡ true
are_distinct-negatives p zero = refl
are_distinct-negatives p (suc V) = subst (λ c. are_distinct c ≡ true) (sym (negatives-suc p V)) (go (p (suc V)) refl (are_distinct-negatives p V))
  where
    absent : has_var (negatives p V) (suc V) ≡ false
    absent = has_var-none (negatives p V) (suc V) (λ l a e. let r = has-from_negatives p V l a in let high = r.1.1 in omega arith)

    go : (b : Bool) → p (suc V) ≡ b → are_distinct (negatives p V) ≡ true → are_distinct (negatives p V ++ map negative (cond b (suc V ∷ []) [])) ≡ true
    go true q d = are_distinct-push (negatives p V) (negative (suc V)) d absent
    go false q d = subst (λ c. are_distinct c ≡ true) (sym (append-nil (negatives p V))) d

pub IsCube-pure_literals : (F : Formula) → IsCube (pure_literals F)
IsCube-pure_literals F = are_distinct-negatives (is_pure F.clauses) F.vars

length-negatives : (p : ℕ → Bool) (V : ℕ) → length (negatives p V) ≤ V
length-negatives p zero = omega arith
length-negatives p (suc V) = go (p (suc V)) refl (length-negatives p V)
  where
    longer : length (negatives p (suc V)) ≡ length (negatives p V) + length (map negative (filter p (suc V ∷ [])))
    longer = ap length (negatives-suc p V) ∙ length-append (negatives p V) (map negative (filter p (suc V ∷ [])))

    at_most : (b : Bool) → length (map negative (cond b (suc V ∷ []) [])) ≤ 1
    at_most true = omega arith
    at_most false = omega arith

    go : (b : Bool) → p (suc V) ≡ b → length (negatives p V) ≤ V → length (negatives p (suc V)) ≤ suc V
    go b q few = let one = at_most (p (suc V)) in let sum = longer in omega arith

pub length-pure_literals : (F : Formula) → length (pure_literals F) ≤ F.vars
length-pure_literals F = length-negatives (is_pure F.clauses) F.vars

pub length-first_clauses : (F : Formula) → length (first_clauses F) ≡ length F.clauses + length (pure_literals F)
length-first_clauses F = length-append F.clauses (pure_units F) ∙ ap (λ n. length F.clauses + n) (length-map (pure_literals F) (λ l. l ∷ []))

-- the truth of lists of clauses, and of unit clauses
pub are_true-append : (m : ℕ → Bool) (K L : List Clause) → are_true m K ≡ true → are_true m L ≡ true → are_true m (K ++ L) ≡ true
are_true-append m K L h k = list_all-append (is_true_clause m) K L ∙ and-true (are_true m K) (are_true m L) h k

pub are_true-left : (m : ℕ → Bool) (K L : List Clause) → are_true m (K ++ L) ≡ true → are_true m K ≡ true
are_true-left m K L h = and-left (are_true m K) (are_true m L) (sym (list_all-append (is_true_clause m) K L) ∙ h)

pub are_true-right : (m : ℕ → Bool) (K L : List Clause) → are_true m (K ++ L) ≡ true → are_true m L ≡ true
are_true-right m K L h = and-right (are_true m K) (are_true m L) (sym (list_all-append (is_true_clause m) K L) ∙ h)

pub are_true-unit_clauses : (m : ℕ → Bool) (ls : List Literal) → AreTrue m ls → are_true m (unit_clauses ls) ≡ true
are_true-unit_clauses m [] h = refl
are_true-unit_clauses m (l ∷ ls) h = and-true (is_true_clause m (l ∷ [])) (are_true m (unit_clauses ls)) (or-left (is_true m l) false h.0) (are_true-unit_clauses m ls h.1)

pub AreTrue-unit_clauses : (m : ℕ → Bool) (ls : List Literal) → are_true m (unit_clauses ls) ≡ true → AreTrue m ls
AreTrue-unit_clauses m [] h = tt
AreTrue-unit_clauses m (l ∷ ls) h = (only (is_true m l) (and-left (is_true_clause m (l ∷ [])) (are_true m (unit_clauses ls)) h), AreTrue-unit_clauses m ls (and-right (is_true_clause m (l ∷ [])) (are_true m (unit_clauses ls)) h))
  where
    only : (b : Bool) → b || false ≡ true → b ≡ true
    only true e = refl
    only false e = e

-- where the literal stands in none of the clauses
pub occurs-none : (K : List Clause) (l : Literal) (c : Clause) → occurs (c ∷ K) l ≡ false → (has c l ≡ false) × (occurs K l ≡ false)
occurs-none K l c h = go (has c l) h
  where
    go : (b : Bool) → b || occurs K l ≡ false → (b ≡ false) × (occurs K l ≡ false)
    go true e = absurd (cc)
    go false e = (refl, e)

pub occurs-append : (K L : List Clause) (l : Literal) → occurs K l ≡ false → occurs L l ≡ false → occurs (K ++ L) l ≡ false
occurs-append [] L l h k = k
occurs-append (c ∷ K) L l h k = let both = occurs-none K l c h in ap (λ b. b || occurs (K ++ L) l) both.0 ∙ occurs-append K L l both.1 k

-- a positive literal stands in no unit clause of a negative one
pub has-opposite : (v w : ℕ) → has (negative w ∷ []) (positive v) ≡ false
has-opposite v w = go (nat_eq v w)
  where
    go : (b : Bool) → (b && false) || false ≡ false
    go true = refl
    go false = refl

occurs-negatives : (v : ℕ) (vs : List ℕ) → occurs (unit_clauses (map negative vs)) (positive v) ≡ false
occurs-negatives v [] = refl
occurs-negatives v (w ∷ vs) = ap (λ b. b || occurs (unit_clauses (map negative vs)) (positive v)) (has-opposite v w) ∙ occurs-negatives v vs

-- No clause that a search begins with has a pure variable without its negation.
pub occurs-first_clauses : (F : Formula) (l : Literal) → has (pure_literals F) l ≡ true → occurs (first_clauses F) (negated l) ≡ false
occurs-first_clauses F l h =
    let one = has-from_pure_literals F l h in
    let absent : occurs F.clauses (positive l.var) ≡ false = not_true (occurs F.clauses (positive l.var)) one.2 in
    subst (λ k. occurs (first_clauses F) (negated k) ≡ false) (sym one.0) (occurs-append F.clauses (pure_units F) (positive l.var) absent (occurs-negatives l.var (pure_variables F)))
