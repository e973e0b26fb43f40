-- A formula made simpler before it is searched: clauses that follow are added, clauses that are
-- implied are dropped, and variables are eliminated by resolution. Source: Davis and Putnam (JACM
-- 1960) for elimination, and Eén and Biere (SAT 2005) for its use before a search; that each
-- change is one that a proof's lines can follow is LRAT's (CADE 2017).
use Rattle.std.specs.Prelude.{◌≡◌, ℕ, ◌+◌, ◌≤◌, Bool, true, false, not, ◌||◌, nat_eq, List, [], ◌∷◌, ◌++◌, map, filter, length, Some, Contains, All, if◌then◌else◌}
use Rattle.std.specs.Option.{unwrap_or}
use Rattle.std.specs.List.{list_any, list_all}
use Rattle.theory.specs.Literals.{Literal, Clause, negated, negations, positive, negative, has, has_var, has_both_signs, without}
use Rattle.theory.specs.Truth.{Formula, Assignment, IsOver, is_true_clause, are_true, value}
use Rattle.theory.specs.Trails.{variables}
use Rattle.theory.specs.Learning.{Line}
use Rattle.theory.specs.Forgetting.{forgotten}
use Rattle.theory.specs.Steps.{Step, add, delete}
use Rattle.theory.specs.Checking.{Numbered, numbered_from, clause_of, take_hints, conflicts, deleted}
use Rattle.theory.specs.Deletions.{is_among, without_numbers}
use Rattle.theory.specs.Proofs.{numbers_from}

-- what follows from c, which has l, and d, which has its negation
abbrev pub resolvent : Literal → Clause → Clause → Clause
resolvent l c d = without c l ++ without d (negated l)

-- a variable that was eliminated, and the clauses that had it without a negation
pub record Eliminated : Type 0 where
  pub var : ℕ
  pub clauses : List Clause

-- the clauses that are there, the last number given away, and the variables eliminated so far, the
-- first one first
pub record Simplified : Type 0 where
  pub clauses : Numbered
  pub last : ℕ
  pub eliminated : List Eliminated

-- before any change
abbrev pub unsimplified : Formula → Simplified
unsimplified F = record { clauses = numbered_from 1 F.clauses; last = length F.clauses; eliminated = [] }

pub data Change : Type 0 where
  -- a clause is added, by the numbers of those that it follows from
  adds : Line → Change
  -- the clauses of these numbers are dropped
  drops : List ℕ → Change
  -- a variable is eliminated, and the clauses of these numbers are dropped, which are those with it
  eliminates : ℕ → List ℕ → Change

-- the clauses without their numbers
abbrev pub clauses_in : Numbered → List Clause
clauses_in K = map (λ e. e.1) K

-- those of them that have l
abbrev pub having : Literal → Numbered → List Clause
having l K = filter (λ c. has c l) (clauses_in K)

-- what a change leaves
abbrev pub changed : Simplified → Change → Simplified
changed s (adds line) = record s { clauses = (s.last + 1, line.clause) ∷ s.clauses; last = s.last + 1 }
changed s (drops ns) = record s { clauses = without_numbers s.clauses ns }
changed s (eliminates x ns) = record s {
  clauses = without_numbers s.clauses ns;
  eliminated = s.eliminated ++ record { var = x; clauses = having (positive x) s.clauses } ∷ [];
}

-- whether the clauses K imply c at sight: it has both signs of a variable, or all literals of one
-- of them
abbrev pub is_implied : Numbered → Clause → Bool
is_implied K c = has_both_signs c || list_any (λ d. list_all (has c) d) (clauses_in K)

-- of the clauses K those of the numbers ns are there, each named once, and may go: the others imply
-- them
abbrev pub AreImplied : Numbered → List ℕ → Type 0
AreImplied K ns = let L = without_numbers K ns in
    (deleted K ns ≡ Some L) × (list_all (λ e. not (is_among e.0 ns) || is_implied L e.1) K ≡ true)

-- the clauses L imply each resolvent on x of two of the clauses K
abbrev pub AreResolved : Numbered → Numbered → ℕ → Type 0
AreResolved L K x = list_all (λ c. list_all (λ d. is_implied L (resolvent (positive x) c d)) (having (negative x) K)) (having (positive x) K) ≡ true

-- the clauses K of the numbers ns are those with x, each named once, and the others imply each
-- resolvent on x
pub record IsEliminable (K : Numbered) (x : ℕ) (ns : List ℕ) : Type 0 where
  pub there : deleted K ns ≡ Some (without_numbers K ns)
  pub have_it : list_all (λ e. not (is_among e.0 ns) || has_var e.1 x) K ≡ true
  pub lack_it : list_all (λ c. not (has_var c x)) (clauses_in (without_numbers K ns)) ≡ true
  pub resolved : AreResolved (without_numbers K ns) K x

-- the clause is one over the variables 1 to V, has no variable in both signs, and passes the checker
-- by its hints
pub record IsAddable (V : ℕ) (K : Numbered) (line : Line) : Type 0 where
  pub passes : take_hints K (negations line.clause) line.hints ≡ conflicts
  pub one_sign : has_both_signs line.clause ≡ false
  pub over : IsOver V line.clause

-- the change may be made
abbrev pub IsFit : ℕ → Simplified → Change → Type 0
IsFit V s (adds line) = IsAddable V s.clauses line
IsFit V s (drops ns) = AreImplied s.clauses ns
IsFit V s (eliminates x ns) = IsEliminable s.clauses x ns

-- so they may, from s on, one after the other
abbrev pub AreFit : ℕ → Simplified → List Change → Type 0
AreFit V s [] = Unit {0}
AreFit V s (c ∷ cs) = IsFit V s c × AreFit V (changed s c) cs

-- what they leave
abbrev pub changed_by : Simplified → List Change → Simplified
changed_by s [] = s
changed_by s (c ∷ cs) = changed_by (changed s c) cs

-- the formula may be simplified by these changes
abbrev pub AreSimplifying : Formula → List Change → Type 0
AreSimplifying F cs = AreFit F.vars (unsimplified F) cs

-- and this is what is left of it
abbrev pub simplified : Formula → List Change → Simplified
simplified F cs = changed_by (unsimplified F) cs

-- the truth values m, but b for the variable x
abbrev pub with_value : (ℕ → Bool) → ℕ → Bool → ℕ → Bool
with_value m x b v = if nat_eq v x then b else m v

-- whether one of the clauses that had the variable has no other true literal
abbrev pub is_needed : (ℕ → Bool) → Eliminated → Bool
is_needed m e = list_any (λ c. not (is_true_clause m (without c (positive e.var)))) e.clauses

-- the truth values m, with those of the eliminated variables, from the last to the first: each is
-- true where it is needed
abbrev pub extended : (ℕ → Bool) → List Eliminated → ℕ → Bool
extended m [] = m
extended m (e ∷ es) = let n = extended m es in with_value n e.var (is_needed n e)

-- each number is that of one clause, and no greater than the last
pub record AreNumbered (last : ℕ) (K : Numbered) : Type 0 where
  pub alone : (e : ℕ × Clause) → Contains K e → clause_of K e.0 ≡ Some e.1
  pub within : (n : ℕ) (c : Clause) → clause_of K n ≡ Some c → (1 ≤ n) × (n ≤ last)

-- s has come from F, and says the same
pub record IsSimplificationOf (F : Formula) (s : Simplified) : Type 0 where
  -- what makes the formula's clauses true makes these true; and what makes these true makes the
  -- formula's true, once it has the eliminated variables' values
  pub follows : (m : ℕ → Bool) → are_true m F.clauses ≡ true → are_true m (clauses_in s.clauses) ≡ true
  pub extends : (m : ℕ → Bool) → are_true m (clauses_in s.clauses) ≡ true → are_true (extended m s.eliminated) F.clauses ≡ true
  -- the clauses are over the formula's variables
  pub over : All (IsOver F.vars) (clauses_in s.clauses)
  pub numbered : AreNumbered s.last s.clauses

-- the clauses that a search begins with: each under its own number, and where one isn't there any
-- more a forgotten one
abbrev pub kept_clauses : Simplified → List Clause
kept_clauses s = map (λ n. unwrap_or (clause_of s.clauses n) forgotten) (numbers_from 1 s.last)

-- their formula
abbrev pub simplified_formula : Formula → Simplified → Formula
simplified_formula F s = record F { clauses = kept_clauses s }

-- a model of the clauses with the eliminated variables' values
abbrev pub extended_model : ℕ → List Eliminated → Assignment → Assignment
extended_model V es M = map (extended (value M) es) (variables V)

-- what deletes the clauses of these numbers, where the last number given away is this one
abbrev pub dropping : ℕ → List ℕ → List Step
dropping last [] = []
dropping last (n ∷ ns) = delete (record { id = last; ids = n ∷ ns }) ∷ []

-- the lines of the changes, where the last number given away is this one
abbrev pub change_steps : ℕ → List Change → List Step
change_steps last [] = []
change_steps last (adds line ∷ cs) = add (record { id = last + 1; clause = line.clause; hints = line.hints; groups = [] }) ∷ change_steps (last + 1) cs
change_steps last (drops ns ∷ cs) = dropping last ns ++ change_steps last cs
change_steps last (eliminates x ns ∷ cs) = dropping last ns ++ change_steps last cs

-- the lines of a simplification, behind the formula's own clauses
abbrev pub simplification : Formula → List Change → List Step
simplification F cs = change_steps (length F.clauses) cs
