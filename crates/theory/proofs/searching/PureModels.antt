-- No pure variable is true in a first model. So the unit clauses of the pure variables change
-- neither the first model nor whether there is one.
use Rattle.std.proofs.Common.{◌≡◌, ℕ, zero, suc, ◌+◌, ◌-◌, ◌<◌, ◌≤◌, Bool, true, false, not, List, [], ◌∷◌, length, refl, ap, sym, subst, ◌∙◌, ◌⊎◌, inl, inr, arith, All, get_or, if◌then◌else◌}
use Rattle.std.proofs.lemmas.List.Elements.{All-head, All-tail}
use Rattle.theory.specs.Literals.{Literal, Clause, same_sign, has, positive, negative, IsVariable}
use Rattle.theory.specs.Truth.{Formula, Assignment, IsOver, IsFormula, AreTrue, Satisfies, Satisfiable, value, is_true, is_true_clause, are_true}
use Rattle.theory.specs.FirstModel.{IsFirst, comes_before}
use Rattle.theory.specs.Pure.{occurs, is_pure, pure_literals, pure_units, searched}
use Rattle.theory.proofs.literals.LiteralLemmas.{and-left, and-right, or-cases, or-left, or-right, not_true}
use Rattle.theory.proofs.literals.LiteralSets.{and-true, true_false, has-head, has-tail}
use Rattle.theory.proofs.literals.TrueClauses.{AreTrue-has}
use Rattle.theory.proofs.searching.PureVariables.{has-pure_literals, has-from_pure_literals, are_true-append, are_true-left, are_true-right, are_true-unit_clauses, AreTrue-unit_clauses, occurs-none}

-- the assignment from variable v on, with the variables that pass the test made false
lowered : (ℕ → Bool) → ℕ → Assignment → Assignment
lowered p v [] = []
lowered p v (b ∷ M) = (if p v then false else b) ∷ lowered p (v + 1) M

length-lowered : (p : ℕ → Bool) (v : ℕ) (M : Assignment) → length (lowered p v M) ≡ length M
unfolding lowered
length-lowered p v [] = refl
length-lowered p v (b ∷ M) = ap suc (length-lowered p (v + 1) M)

lowered-at : (p : ℕ → Bool) (v : ℕ) (M : Assignment) (i : ℕ) → get_or (lowered p v M) i false ≡ (if p (v + i) then false else get_or M i false)
unfolding lowered
lowered-at p v [] i = none (p (v + i))
  where
    none : (b : Bool) → false ≡ (if b then false else false)
    none true = refl
    none false = refl
lowered-at p v (b ∷ M) zero = let number : v ≡ v + 0 = omega arith in ap (λ k. if p k then false else b) number
lowered-at p v (b ∷ M) (suc i) = let number : v + 1 + i ≡ v + suc i = omega arith in lowered-at p (v + 1) M i ∙ ap (λ k. if p k then false else get_or M i false) number

value-lowered : (p : ℕ → Bool) (M : Assignment) (v : ℕ) → 1 ≤ v → value (lowered p 1 M) v ≡ (if p v then false else value M v)
value-lowered p M v h = let number : 1 + (v - 1) ≡ v = omega arith in lowered-at p 1 M (v - 1) ∙ ap (λ k. if p k then false else value M v) number

-- it is the same, or comes before
lowered-first : (p : ℕ → Bool) (v : ℕ) (M : Assignment) → (lowered p v M ≡ M) ⊎ (comes_before (lowered p v M) M ≡ true)
unfolding lowered
lowered-first p v [] = inl refl
lowered-first p v (b ∷ M) = go (p v) b (lowered-first p (v + 1) M)
  where
    same_head : (b : Bool) → (lowered p (v + 1) M ≡ M) ⊎ (comes_before (lowered p (v + 1) M) M ≡ true)
        → (b ∷ lowered p (v + 1) M ≡ b ∷ M) ⊎ (comes_before (b ∷ lowered p (v + 1) M) (b ∷ M) ≡ true)
    same_head b (inl e) = inl (ap (λ L. b ∷ L) e)
    same_head true (inr h) = inr h
    same_head false (inr h) = inr h

    go : (c b : Bool) → (lowered p (v + 1) M ≡ M) ⊎ (comes_before (lowered p (v + 1) M) M ≡ true)
        → ((if c then false else b) ∷ lowered p (v + 1) M ≡ b ∷ M) ⊎ (comes_before ((if c then false else b) ∷ lowered p (v + 1) M) (b ∷ M) ≡ true)
    go true true more = inr refl
    go true false more = same_head false more
    go false b more = same_head b more

-- of an assignment that comes before one in which these variables are false, it comes before that
-- too
lowered-before : (p : ℕ → Bool) (v : ℕ) (N M : Assignment) → comes_before N M ≡ true → lowered p v M ≡ M → comes_before (lowered p v N) M ≡ true
unfolding lowered
lowered-before p v [] M h e = absurd (cc)
lowered-before p v (false ∷ N) [] h e = absurd (cc)
lowered-before p v (true ∷ N) [] h e = absurd (cc)
lowered-before p v (true ∷ N) (false ∷ M) h e = absurd (cc)
lowered-before p v (false ∷ N) (true ∷ M) h e = go (p v)
  where
    go : (b : Bool) → comes_before ((if b then false else false) ∷ lowered p (v + 1) N) (true ∷ M) ≡ true
    go true = refl
    go false = refl
lowered-before p v (false ∷ N) (false ∷ M) h e = go (p v) e (lowered-before p (v + 1) N M h)
  where
    go : (b : Bool) → (if b then false else false) ∷ lowered p (v + 1) M ≡ false ∷ M → (lowered p (v + 1) M ≡ M → comes_before (lowered p (v + 1) N) M ≡ true)
        → comes_before ((if b then false else false) ∷ lowered p (v + 1) N) (false ∷ M) ≡ true
    go true q more = more (cc)
    go false q more = more (cc)
lowered-before p v (true ∷ N) (true ∷ M) h e = go (p v) e (lowered-before p (v + 1) N M h)
  where
    go : (b : Bool) → (if b then false else true) ∷ lowered p (v + 1) M ≡ true ∷ M → (lowered p (v + 1) M ≡ M → comes_before (lowered p (v + 1) N) M ≡ true)
        → comes_before ((if b then false else true) ∷ lowered p (v + 1) N) (true ∷ M) ≡ true
    go true q more = absurd (cc)
    go false q more = more (cc)

-- where these variables are false already, nothing changes
lowered-same : (p : ℕ → Bool) (v : ℕ) (M : Assignment) → ((i : ℕ) → i < length M → p (v + i) ≡ true → get_or M i false ≡ false) → lowered p v M ≡ M
unfolding lowered
lowered-same p v [] h = refl
lowered-same p v (b ∷ M) h = go (p v) refl (lowered-same p (v + 1) M (λ i l e. h (suc i) (omega arith) (let number : v + suc i ≡ v + 1 + i = omega arith in ap p number ∙ e)))
  where
    go : (c : Bool) → p v ≡ c → lowered p (v + 1) M ≡ M → (if c then false else b) ∷ lowered p (v + 1) M ≡ b ∷ M
    go true q e =
        let number : v + 0 ≡ v = omega arith in
        let here : b ≡ false = h 0 (omega arith) (ap p number ∙ q) in
        ap (λ L. false ∷ L) e ∙ ap (λ x. x ∷ M) (sym here)
    go false q e = ap (λ L. b ∷ L) e

-- a clause stays true, if it has none of these variables without its negation
clause-lowered : (p : ℕ → Bool) (V : ℕ) (M : Assignment) (c : Clause) → IsOver V c → ((v : ℕ) → p v ≡ true → has c (positive v) ≡ false) → is_true_clause (value M) c ≡ true
    → is_true_clause (value (lowered p 1 M)) c ≡ true
clause-lowered p V M [] over absent h = absurd (cc)
clause-lowered p V M (l ∷ c) over absent h = elim (or-cases (is_true (value M) l) (is_true_clause (value M) c) h) [
  | inl here ↦ or-left (is_true (value (lowered p 1 M)) l) (is_true_clause (value (lowered p 1 M)) c)
      (ap (same_sign l.positive) (value-lowered p M l.var (All-head (λ k. IsVariable V k.var) l c over).0) ∙ stays (p l.var) refl l.positive refl here)
  | inr rest ↦ or-right (is_true (value (lowered p 1 M)) l) (is_true_clause (value (lowered p 1 M)) c)
      (clause-lowered p V M c (All-tail (λ k. IsVariable V k.var) l c over) (λ v e. later v (absent v e)) rest)
]
  where
    later : (v : ℕ) → has (l ∷ c) (positive v) ≡ false → has c (positive v) ≡ false
    later v a = go (has c (positive v)) refl
      where
        go : (b : Bool) → has c (positive v) ≡ b → has c (positive v) ≡ false
        go true e = true_false (has (l ∷ c) (positive v)) (has-tail l (positive v) c e) a
        go false e = e

    stays : (b : Bool) → p l.var ≡ b → (s : Bool) → l.positive ≡ s → is_true (value M) l ≡ true → same_sign s (if b then false else value M l.var) ≡ true
    stays false q s i t = ap (λ x. same_sign x (value M l.var)) (sym i) ∙ t
    stays true q false i t = refl
    stays true q true i t =
        let it : l ≡ positive l.var = λ j. record { var = l.var; positive = i j } in
        true_false (has (l ∷ c) (positive l.var)) (subst (λ k. has (l ∷ c) k ≡ true) it (has-head l c)) (absent l.var q)

clauses-lowered : (p : ℕ → Bool) (V : ℕ) (M : Assignment) (K : List Clause) → All (IsOver V) K → ((v : ℕ) → p v ≡ true → occurs K (positive v) ≡ false) → are_true (value M) K ≡ true
    → are_true (value (lowered p 1 M)) K ≡ true
clauses-lowered p V M [] over absent h = refl
clauses-lowered p V M (c ∷ K) over absent h = and-true (is_true_clause (value (lowered p 1 M)) c) (are_true (value (lowered p 1 M)) K)
    (clause-lowered p V M c (All-head (IsOver V) c K over) (λ v e. (occurs-none K (positive v) c (absent v e)).0) (and-left (is_true_clause (value M) c) (are_true (value M) K) h))
    (clauses-lowered p V M K (All-tail (IsOver V) c K over) (λ v e. (occurs-none K (positive v) c (absent v e)).1) (and-right (is_true_clause (value M) c) (are_true (value M) K) h))

-- all literals of a list are true if each one that it has is
all-true : (m : ℕ → Bool) (ls : List Literal) → ((l : Literal) → has ls l ≡ true → is_true m l ≡ true) → AreTrue m ls
all-true m [] f = tt
all-true m (l ∷ ls) f = (f l (has-head l ls), all-true m ls (λ k h. f k (has-tail l k ls h)))

-- an assignment with the formula's pure variables made false
pub purified : Formula → Assignment → Assignment
purified F M = lowered (is_pure F.clauses) 1 M

pub length-purified : (F : Formula) (M : Assignment) → length (purified F M) ≡ length M
unfolding purified
length-purified F M = length-lowered (is_pure F.clauses) 1 M

pub value-purified : (F : Formula) (M : Assignment) (v : ℕ) → 1 ≤ v → value (purified F M) v ≡ (if is_pure F.clauses v then false else value M v)
unfolding purified
value-purified F M v h = value-lowered (is_pure F.clauses) M v h

purified-true : (F : Formula) (M : Assignment) → AreTrue (value (purified F M)) (pure_literals F)
unfolding purified
purified-true F M = all-true (value (purified F M)) (pure_literals F) each
  where
    each : (l : Literal) → has (pure_literals F) l ≡ true → is_true (value (purified F M)) l ≡ true
    each l h =
        let one = has-from_pure_literals F l h in
        let low : value (purified F M) l.var ≡ false = value-lowered (is_pure F.clauses) M l.var one.1.0 ∙ ap (λ b. if b then false else value M l.var) one.2 in
        ap (is_true (value (purified F M))) one.0 ∙ ap not low

-- What satisfies the formula, with its pure variables made false, satisfies their clauses too.
pub Satisfies-purified : (F : Formula) (M : Assignment) → IsFormula F → Satisfies F M → Satisfies (searched F) (purified F M)
unfolding purified
Satisfies-purified F M formed h = record {
  values = length-lowered (is_pure F.clauses) 1 M ∙ h.values;
  clauses = are_true-append (value (purified F M)) F.clauses (pure_units F)
      (clauses-lowered (is_pure F.clauses) F.vars M F.clauses formed (λ v e. not_true (occurs F.clauses (positive v)) e) h.clauses)
      (are_true-unit_clauses (value (purified F M)) (pure_literals F) (purified-true F M));
}

-- What satisfies those clauses too satisfies the formula.
pub Satisfies-searched : (F : Formula) (M : Assignment) → Satisfies (searched F) M → Satisfies F M
Satisfies-searched F M h = record { values = h.values; clauses = are_true-left (value M) F.clauses (pure_units F) h.clauses }

pub Satisfiable-searched : (F : Formula) → IsFormula F → Satisfiable F → Satisfiable (searched F)
Satisfiable-searched F formed s = (purified F s.0, Satisfies-purified F s.0 formed s.1)

-- where the pure variables are false, making them so changes nothing
purified-same : (F : Formula) (M : Assignment) → Satisfies (searched F) M → purified F M ≡ M
unfolding purified
purified-same F M h = lowered-same (is_pure F.clauses) 1 M each
  where
    all : AreTrue (value M) (pure_literals F)
    all = AreTrue-unit_clauses (value M) (pure_literals F) (are_true-right (value M) F.clauses (pure_units F) h.clauses)

    each : (i : ℕ) → i < length M → is_pure F.clauses (1 + i) ≡ true → get_or M i false ≡ false
    each i l e =
        let within = h.values in
        let variable : IsVariable F.vars (1 + i) = (omega arith, omega arith) in
        let low : value M (1 + i) ≡ false = not_true (value M (1 + i)) (AreTrue-has (value M) (pure_literals F) (negative (1 + i)) all (has-pure_literals F (1 + i) variable e)) in
        let place : i ≡ 1 + i - 1 = omega arith in
        ap (λ k. get_or M k false) place ∙ low

purified-first : (F : Formula) (M : Assignment) → IsFormula F → IsFirst F M → purified F M ≡ M
unfolding purified
purified-first F M formed h = elim (lowered-first (is_pure F.clauses) 1 M) [
  | inl e ↦ e
  | inr b ↦ absurd (h.least (purified F M) (Satisfies-searched F (purified F M) (Satisfies-purified F M formed h.satisfies)) b)
]

-- No pure variable is true in a first model.
pub AreTrue-pure_literals : (F : Formula) (M : Assignment) → IsFormula F → IsFirst F M → AreTrue (value M) (pure_literals F)
AreTrue-pure_literals F M formed h = subst (λ N. AreTrue (value N) (pure_literals F)) (purified-first F M formed h) (purified-true F M)

-- So the first model of the formula is that of the formula with the clauses of its pure variables,
-- and the other way round.
pub searched-IsFirst : (F : Formula) (M : Assignment) → IsFormula F → IsFirst F M → IsFirst (searched F) M
searched-IsFirst F M formed h = record {
  satisfies = subst (Satisfies (searched F)) (purified-first F M formed h) (Satisfies-purified F M formed h.satisfies);
  least = λ N n. h.least N (Satisfies-searched F N n);
}

pub IsFirst-searched : (F : Formula) (M : Assignment) → IsFormula F → IsFirst (searched F) M → IsFirst F M
unfolding purified
IsFirst-searched F M formed h = record {
  satisfies = Satisfies-searched F M h.satisfies;
  least = λ N n b. h.least (purified F N) (Satisfies-purified F N formed n) (lowered-before (is_pure F.clauses) 1 N M b (purified-same F M h.satisfies));
}
