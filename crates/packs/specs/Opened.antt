-- What a replayer is seen as.
use Rattle.std.specs.Prelude.{ℕ, List, ◌++◌}
use Rattle.theory.specs.Literals.{Literal}
use Rattle.theory.specs.Truth.{Formula}
use Rattle.theory.specs.Pure.{unit_clauses}

-- how many variables the formula has, and the literals whose unit clauses stand behind its own
pub record Opened : Type 0 where
  pub vars : ℕ
  pub units : List Literal

-- the formula with the unit clauses of these literals
abbrev pub with_units : Formula → List Literal → Formula
with_units F units = record F { clauses = F.clauses ++ unit_clauses units }

-- opened for the formula and these literals
abbrev pub opened : Formula → List Literal → Opened
opened F units = record { vars = F.vars; units = units }
