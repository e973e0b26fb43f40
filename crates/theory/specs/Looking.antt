-- A look at a cube: on which variable a formula that is divided is split, before anything is
-- searched.
-- Source: lookahead in cube-and-conquer (march_cu: Heule, Kullmann, Wieringa, Biere, HVC 2011), in
-- natural numbers. How candidates are chosen and what a variable is worth is this project's own, as
-- measured.
use Rattle.std.specs.Prelude.{◌≡◌, ℕ, zero, suc, ◌+◌, ◌-◌, ◌*◌, nat_lt, not, ◌&&◌, List, [], ◌∷◌, ◌++◌, map, length, count_by, Option, Some, None, ◌⊎◌, if◌then◌else◌}
use Rattle.theory.specs.Literals.{Literal, Clause, has, has_both_signs, positive, negative}
use Rattle.theory.specs.Truth.{Formula}
use Rattle.theory.specs.Trails.{Trail, literals, cube_trail, decide, variables}
use Rattle.theory.specs.Held.{held, least_held}
use Rattle.theory.specs.Propagation.{Closed, quiet, conflict, by_place, Propagates}
use Rattle.theory.specs.Learning.{learn}
use Rattle.theory.specs.Units.{units_of}
use Rattle.theory.specs.Search.{Outcome, model, refuted, exhausted, values}
use Rattle.theory.specs.Scores.{Scores, best_outside}

-- how many clauses hold the literal; those with both signs of a variable don't count
abbrev pub occurrences : List Clause → Literal → ℕ
occurrences K l = count_by (λ c. has c l && not (has_both_signs c)) K

-- a variable ranks high where both of its literals stand in many clauses
abbrev pub rank : List Clause → ℕ → ℕ
rank K x = (occurrences K (positive x) + 1) * (occurrences K (negative x) + 1)

-- the ranks of the variables 1 to V, as scores
abbrev pub ranks : ℕ → List Clause → Scores
ranks V K = record { scores = map (rank K) (variables V); step = 0 }

-- of these variables that have no literal in P the n of greatest score, the greatest one first; of
-- equal ones the last
abbrev pub best_ones : ℕ → List ℕ → Scores → List Literal → List ℕ
best_ones zero vs s P = []
best_ones (suc n) vs s P = elim (best_outside vs P s) [ None ↦ [] | Some x ↦ x ∷ best_ones n vs s (positive x ∷ P) ]

-- so many variables are tried
abbrev pub max_candidates : ℕ
max_candidates = 32

-- what the decision of a literal brings: so many entries, or none, where a clause comes to be
-- false: the literal fails
abbrev pub brought : Trail → Closed → Trail → Option ℕ
brought T (conflict n) U = None
brought T quiet U = Some (length U - length T)

pub record Brings (K : List Clause) (T : Trail) (l : Literal) (count : Option ℕ) : Type 0 where
  pub answer : Closed
  pub trail : Trail
  pub propagates : Propagates by_place K (decide T l) answer trail
  pub counted : brought T answer trail ≡ count

-- a variable is worth much where both of its literals bring much
abbrev pub worth : ℕ → ℕ → ℕ
worth a b = 1024 * a * b + a + b

-- a variable, and what it is worth
pub record Choice : Type 0 where
  pub var : ℕ
  pub worth : ℕ

abbrev pub no_choice : Choice
no_choice = record { var = 0; worth = 0 }

-- the one that is worth more, of equal ones the first
abbrev pub better_choice : Choice → Choice → Choice
better_choice c d = if nat_lt c.worth d.worth then d else c

-- what a variable is worth, first its negation is tried; none where a literal fails
abbrev pub IsWorth : List Clause → Trail → ℕ → Option ℕ → Type 0
IsWorth K T x None = Brings K T (negative x) None ⊎ ((a : ℕ) × Brings K T (negative x) (Some a) × Brings K T (positive x) None)
IsWorth K T x (Some w) = (a : ℕ) × (b : ℕ) × Brings K T (negative x) (Some a) × Brings K T (positive x) (Some b) × (w ≡ worth a b)

-- x is the first of the candidates of which a literal fails, or, where there is none, the one that
-- is worth most; c is the best of those that were tried before
pub data Chooses (K : List Clause) (T : Trail) : Choice → List ℕ → ℕ → Type 0 where
  has_chosen : {c : Choice} {x : ℕ} → c.var ≡ x → Chooses K T c [] x
  fails : {c : Choice} {x : ℕ} {xs : List ℕ} → IsWorth K T x None → Chooses K T c (x ∷ xs) x
  tries : {c : Choice} {w x y : ℕ} {xs : List ℕ} → IsWorth K T x (Some w) → Chooses K T (better_choice c (record { var = x; worth = w })) xs y
      → Chooses K T c (x ∷ xs) y

-- the variable that a cube is split on, where propagation left this trail
abbrev pub IsChosen : Formula → Trail → ℕ → Type 0
IsChosen F T x =
    let K = F.clauses in
    Chooses K T no_choice (best_ones max_candidates (held F) (ranks F.vars K) (literals T)) x

abbrev pub SplitsInto : Formula → Trail → Option ℕ → Outcome → Type 0
SplitsInto F T None o = o ≡ model (values F.vars T)
SplitsInto F T (Some v) o = (x : ℕ) × (o ≡ exhausted x) × IsChosen F T x

-- what a cube comes to behind an answer of propagation
abbrev pub ComesTo : Formula → Closed → Trail → Outcome → Type 0
ComesTo F (conflict n) T o = let u = units_of F.clauses T in o ≡ refuted (u.lines ++ learn u.clauses u.trail n ∷ [])
ComesTo F quiet T o = SplitsInto F T (least_held F T) o

-- a look at the cube Q: propagation refutes it, or leaves a model, or it is to be split on the
-- variable that is chosen
pub record Looks (F : Formula) (Q : List Literal) (o : Outcome) : Type 0 where
  pub answer : Closed
  pub trail : Trail
  pub propagates : Propagates by_place F.clauses (cube_trail Q) answer trail
  pub comes_to : ComesTo F answer trail o
