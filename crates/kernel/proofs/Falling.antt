-- Each literal that a unit clause gives leaves fewer literals open.
use Rattle.std.proofs.Common.{◌≡◌, ℕ, ◌+◌, ◌<◌, ◌≤◌, Bool, true, false, ◌||◌, List, [], ◌∷◌, ◌++◌, Some, None, find, refl, arith, nat_eq, eq-eqb, cond, ap, ◌∙◌, All, zero, suc, ◌-◌, length, get_or, subst}
use Rattle.std.proofs.lemmas.Option.{unwrap_or-slice_get}
use Rattle.theory.specs.Literals.{Literal, Clause, has_var, IsVariable}
use Rattle.theory.specs.Truth.{IsOver}
use Rattle.theory.specs.Status.{is_unit_in, unit_literal}
use Rattle.theory.specs.Propagation.{Closed, Rule, IsRule, Propagates, grows, least_false, clause_at}
use Rattle.theory.specs.Trails.{Trail, literals, current_level}
use Rattle.theory.specs.Lawful.{IsLawful}
use Rattle.theory.proofs.trails.LawfulTrails.{IsLawful-unit, unit_literal-facts}
use Rattle.theory.proofs.literals.OverVariables.{clause_at-over}
use Rattle.theory.proofs.trails.TrailEntries.{literals-at}
use Rattle.theory.proofs.literals.ClauseLemmas.{unit-fresh}

-- 1 for a variable that isn't in P, and 0 for one that is
abbrev pub weight : List Literal → ℕ → ℕ
weight P v = cond (has_var P v) 0 1

-- how many literals of the clauses have such variables
abbrev pub open_in : List Literal → Clause → ℕ
open_in P [] = 0
open_in P (l ∷ c) = weight P l.var + open_in P c

abbrev pub open_among : List Literal → List Clause → ℕ
open_among P [] = 0
open_among P (c ∷ K) = open_in P c + open_among P K

has_var-more : (P : List Literal) (l : Literal) (v : ℕ) → has_var (P ++ l ∷ []) v ≡ has_var P v || nat_eq v l.var
has_var-more [] l v = or-false (nat_eq v l.var)
  where
    or-false : (b : Bool) → b || false ≡ b
    or-false true = refl
    or-false false = refl
has_var-more (k ∷ P) l v = ap (λ b. nat_eq v k.var || b) (has_var-more P l v) ∙ or_assoc (nat_eq v k.var) (has_var P v) (nat_eq v l.var)
  where
    or_assoc : (a b c : Bool) → a || (b || c) ≡ (a || b) || c
    or_assoc true b c = refl
    or_assoc false b c = refl

weight-le : (P : List Literal) (l : Literal) (v : ℕ) → weight (P ++ l ∷ []) v ≤ weight P v
weight-le P l v = rw has_var-more (go (has_var P v) (nat_eq v l.var))
  where
    go : (a b : Bool) → cond (a || b) 0 1 ≤ cond a 0 1
    go true b = omega arith
    go false true = omega arith
    go false false = omega arith

open_in-le : (P : List Literal) (l : Literal) (c : Clause) → open_in (P ++ l ∷ []) c ≤ open_in P c
open_in-le P l [] = omega arith
open_in-le P l (k ∷ c) = omega (arith, weight-le P l k.var, open_in-le P l c)

open_among-le : (P : List Literal) (l : Literal) (K : List Clause) → open_among (P ++ l ∷ []) K ≤ open_among P K
open_among-le P l [] = omega arith
open_among-le P l (c ∷ K) = omega (arith, open_in-le P l c, open_among-le P l K)

-- a literal that is found open in a clause
found-falls : (P : List Literal) (p : Literal → Bool) (c : Clause) (l : Literal) → find p c ≡ Some l → has_var P l.var ≡ false → open_in (P ++ l ∷ []) c < open_in P c
found-falls P p [] l h n = absurd (cc)
found-falls P p (k ∷ c) l h n = go (p k) h (found-falls P p c l)
  where
    there : has_var (P ++ l ∷ []) l.var ≡ true
    there = rw (has_var-more, n) (eq-eqb l.var l.var refl)

    go : (b : Bool) → cond b (Some k) (find p c) ≡ Some l → (find p c ≡ Some l → has_var P l.var ≡ false → open_in (P ++ l ∷ []) c < open_in P c) → open_in (P ++ l ∷ []) (k ∷ c) < open_in P (k ∷ c)
    go true e more =
        let same_one : k ≡ l = cc in
        let before : weight P k.var ≡ 1 = rw (same_one, n) refl in
        let after : weight (P ++ l ∷ []) k.var ≡ 0 = rw (same_one, there) refl in
        omega (arith, before, after, open_in-le P l c)
    go false e more = omega (arith, more e n, weight-le P l k.var)

pub open_among-falls : (P : List Literal) (K : List Clause) (n : ℕ) (l : Literal) → n < length K → unit_literal P (get_or K n []) ≡ Some l → open_among (P ++ l ∷ []) K < open_among P K
open_among-falls P [] n l inside h = absurd (omega (arith, inside))
open_among-falls P (c ∷ K) zero l inside h = omega (arith, found-falls P (is_unit_in P c) c l h (unit-fresh P c l h), open_among-le P l K)
open_among-falls P (c ∷ K) (suc n) l inside h = omega (arith, open_among-falls P K n l (let z : n < length K = omega (arith, inside) in z) h, open_in-le P l c)

-- a trail that grew by the literal of a unit clause, each part as a call has told it
pub record Grew (rule : Rule) (K : List Clause) (T new : Trail) : Type 0 where
  pub number : ℕ
  pub lit : Literal
  pub level : ℕ
  pub none_false : least_false (literals T) K ≡ None
  pub unit : rule T K ≡ Some (number, lit)
  pub level_is : level ≡ current_level T
  pub pushed : new ≡ T ++ record { lit = lit; reason = Some number; level = level } ∷ []

pub Grew-Propagates : (rule : Rule) (K : List Clause) (T new U : Trail) (a : Closed) → Grew rule K T new → Propagates rule K new a U → Propagates rule K T a U
Grew-Propagates rule K T new U a g h =
    grows g.none_false g.unit (rw (← g.level_is, ← g.pushed) h)

pub Grew-falls : (rule : Rule) → IsRule rule → (K : List Clause) (T new : Trail) → Grew rule K T new → open_among (literals new) K < open_among (literals T) K
Grew-falls rule is K T new g =
    let at = is.gives T K (g.number, g.lit) g.unit in
    let unit : unit_literal (literals T) (get_or K (g.number - 1) []) ≡ Some g.lit = subst (λ (c : Clause). unit_literal (literals T) c ≡ Some g.lit) (unwrap_or-slice_get K (g.number - 1) []) at.2 in
    rw (g.pushed, literals-at T (record { lit = g.lit; reason = Some g.number; level = g.level }) []) (open_among-falls (literals T) K (g.number - 1) g.lit (omega (arith, at.0, at.1)) unit)

pub Grew-lawful : (rule : Rule) → IsRule rule → (K : List Clause) (T new : Trail) → Grew rule K T new → IsLawful K T → IsLawful K new
Grew-lawful rule is K T new g h =
    rw (g.pushed, g.level_is) (IsLawful-unit rule is K T (g.number, g.lit) h g.unit)

-- the literal of a unit clause is of a free variable, one of those that the clauses are over
pub unit-free : (rule : Rule) → IsRule rule → (K : List Clause) (T : Trail) (u : ℕ × Literal) → rule T K ≡ Some u → has_var (literals T) u.1.var ≡ false
unit-free rule is K T u h = (unit_literal-facts (literals T) (clause_at K u.0) u.1 (is.gives T K u h).2).1

pub unit-over : (rule : Rule) → IsRule rule → (V : ℕ) (K : List Clause) (T : Trail) (u : ℕ × Literal) → All (IsOver V) K → rule T K ≡ Some u → IsVariable V u.1.var
unit-over rule is V K T u over h =
    let at = is.gives T K u h in
    let facts = unit_literal-facts (literals T) (clause_at K u.0) u.1 at.2 in
    clause_at-over V K u.0 over at.0 at.1 u.1 facts.0
