-- Literals that are held true, and their table by variable.
use Rattle.std.specs.Prelude.{◌≡◌, ℕ, ◌+◌, Bool, true, nat_eq, List, [], ◌∷◌, ◌++◌, length, Option, Some, None, slice_index_or, if◌then◌else◌}
use Rattle.theory.specs.Literals.{Literal, are_distinct}
use Rattle.theory.specs.Truth.{IsOver}

-- the number of variables, and the literals, the latest first
pub record Held : Type 0 where
  pub vars : ℕ
  pub literals : List Literal

-- the truth value of a variable
abbrev pub value_in : List Literal → ℕ → Option Bool
value_in [] v = None
value_in (l ∷ P) v = if nat_eq l.var v then Some l.positive else value_in P v

-- the table of the truth values of 0 and the variables 1 to V
pub record IsTable (V : ℕ) (P : List Literal) (values : List (Option Bool)) : Type 0 where
  pub long : length values ≡ V + 1
  pub distinct : are_distinct P ≡ true
  pub over : IsOver V P
  pub value_at : (v : ℕ) → slice_index_or values v None ≡ value_in P v

-- Q is P with later literals
pub record Extends (P Q : List Literal) : Type 0 where
  pub later : List Literal
  pub whole : Q ≡ later ++ P
