-- The clauses that hints can name, and the literals that are held true while they are taken.
use Rattle.std.specs.Prelude.{◌≡◌, ℕ, zero, suc, Bool, true, false, List, ◌++◌, Option, None, slice_get}
use Rattle.theory.specs.Literals.{Literal, Clause, has, are_distinct}
use Rattle.theory.specs.Truth.{Formula}
use Rattle.theory.specs.Pure.{unit_clauses}
use Rattle.theory.specs.Checking.{Taken, conflicts, holds, fails}
use Rattle.lrat.specs.Assumed.{AreSame}

-- the formula's, then those of the units
abbrev pub begun : Formula → List Literal → List Clause
begun F units = F.clauses ++ unit_clauses units

-- the same, then those of the lines so far
abbrev pub known : Formula → List Literal → List Clause → List Clause
known F units lines = begun F units ++ lines

-- the clause of a number, from 1 on, if there is one
abbrev pub numbered : List Clause → ℕ → Option Clause
numbered K zero = None
numbered K (suc n) = slice_get K n

abbrev pub is_conflict : Taken → Bool
is_conflict conflicts = true
is_conflict (holds P) = false
is_conflict (fails f) = false

-- each of the literals Q is held true
abbrev pub AreHeld : List Literal → List Literal → Type 0
AreHeld Q P = (l : Literal) → has Q l ≡ true → has P l ≡ true

-- just the literals Q are held true, each once
pub record IsHolding (Q P : List Literal) : Type 0 where
  pub same : AreSame Q P
  pub distinct : are_distinct P ≡ true
