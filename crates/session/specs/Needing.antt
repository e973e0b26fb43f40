-- Which decisions a false literal needs.
use Rattle.std.specs.Prelude.{◌≡◌, ℕ, ◌≤◌, Bool, true, false, List, None, All, ◌⊎◌, ◌∷◌, ◌++◌, take, slice_index_or}
use Rattle.theory.specs.Literals.{Literal, Clause, has}
use Rattle.theory.specs.Truth.{AreTrue, is_true, are_true}
use Rattle.theory.specs.Trails.{Entry, Trail, literals}
use Rattle.theory.specs.Lawful.{cube_of}

-- the entry is on the trail, above level 0 and without a reason
pub record IsDecision (T : Trail) (e : Entry) : Type 0 where
  pub before : Trail
  pub behind : Trail
  pub place : T ≡ before ++ e ∷ behind
  pub above : 1 ≤ e.level
  pub reason : e.reason ≡ None

-- the literal is decided on the trail
abbrev pub IsDecided : Trail → Literal → Type 0
IsDecided T l = (e : Entry) × IsDecision T e × (e.lit ≡ l)

-- the core is this literal and decisions, and where the clauses and the trail's cube are true, one of
-- it isn't
pub record IsNeeded (K : List Clause) (T : Trail) (failed : Literal) (core : List Literal) : Type 0 where
  pub part : All (λ l. (l ≡ failed) ⊎ IsDecided T l) core
  pub refuted : (m : ℕ → Bool) → are_true m K ≡ true → AreTrue m (cube_of T) → ¬ (AreTrue m core)

-- the literals of these entries whose variables are marked are true
abbrev pub AreMarkedTrue : (ℕ → Bool) → List Bool → Trail → Type 0
AreMarkedTrue m marked T = (l : Literal) → has (literals T) l ≡ true → slice_index_or marked l.var false ≡ true → is_true m l ≡ true

-- the core is this literal and decisions; and it isn't true where the marked entries up to a place
-- are
pub record IsWalked (K : List Clause) (T : Trail) (failed : Literal) (place : ℕ) (marked : List Bool) (core : List Literal) : Type 0 where
  pub part : All (λ l. (l ≡ failed) ⊎ IsDecided T l) core
  pub refuted : (m : ℕ → Bool) → are_true m K ≡ true → AreTrue m (cube_of T) → AreTrue m core → AreMarkedTrue m marked (take place T) → ⊥
