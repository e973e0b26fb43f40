-- The variables that were named, which have numbers in the order in which they came.
use Rattle.std.specs.Prelude.{◌≡◌, ℕ, ◌-◌, ◌≤◌, Bool, false, All, List, map, length, slice_index, nat_eq, nat_lt, if◌then◌else◌}
use Rattle.std.specs.List.{count_by}
use Rattle.theory.specs.Literals.{Literal, Clause, IsVariable}
use Rattle.theory.specs.Truth.{Formula, Assignment, IsOver, value}
use Rattle.theory.specs.Reading.{large, max_vars}

-- the numbers of the variables 1, 2 and so on, 0 of one that wasn't named; and the variables of the
-- numbers 1, 2 and so on
pub record Naming : Type 0 where
  pub numbers : List ℕ
  pub variables : List ℕ

abbrev pub number_of : Naming → ℕ → ℕ
number_of N v = slice_index N.numbers (v - 1)

abbrev pub variable_of : Naming → ℕ → ℕ
variable_of N n = slice_index N.variables (n - 1)

-- each number is that of its variable, and each variable with a number is that of it
pub record IsNaming (N : Naming) : Type 0 where
  pub numbered : (n : ℕ) → IsVariable (length N.variables) n → IsVariable (length N.numbers) (variable_of N n) × (number_of N (variable_of N n) ≡ n)
  pub named : (v : ℕ) → 1 ≤ v → 1 ≤ number_of N v → (number_of N v ≤ length N.variables) × (variable_of N (number_of N v) ≡ v)
  pub count : count_by (nat_lt 0) N.numbers ≡ length N.variables
  pub few : length N.numbers ≤ max_vars large

-- the numbers that were given stay
pub record IsMore (N P : Naming) : Type 0 where
  pub numbers : length N.numbers ≤ length P.numbers
  pub variables : length N.variables ≤ length P.variables
  pub same : (n : ℕ) → IsVariable (length N.variables) n → variable_of P n ≡ variable_of N n

-- the literal of the variable whose number it has
abbrev pub outward : Naming → Literal → Literal
outward N l = record { var = variable_of N l.var; positive = l.positive }

abbrev pub all_outward : Naming → List Literal → List Literal
all_outward N ls = map (outward N) ls

abbrev pub clauses_outward : Naming → List Clause → List Clause
clauses_outward N K = map (all_outward N) K

-- the formula over the variables
abbrev pub formula_outward : Naming → Formula → Formula
formula_outward N G = record { vars = length N.numbers; clauses = clauses_outward N G.clauses }

-- a variable's value, by the values of the numbers; one that wasn't named is false
abbrev pub value_outward : Assignment → ℕ → Bool
value_outward M n = if nat_eq n 0 then false else value M n

abbrev pub values_outward : Naming → Assignment → Assignment
values_outward N M = map (value_outward M) N.numbers

-- the formula is over numbers that were given
pub record IsNumbered (N : Naming) (G : Formula) : Type 0 where
  pub vars : G.vars ≤ length N.variables
  pub clauses : All (IsOver (length N.variables)) G.clauses
