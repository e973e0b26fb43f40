-- The variables that wait to be tried, and their weights.
use Rattle.std.specs.Prelude.{ℕ, ◌-◌, nat_le, ◌&&◌, List, [], ◌∷◌, filter, length, Option, Some, None, slice_index_or, if◌then◌else◌}
use Rattle.theory.specs.Truth.{Assignment, value}
use Rattle.theory.specs.Trails.{variables}
use Rattle.theory.specs.Trying.{most_pairs}

-- the weights of the variables 1, 2 and so on, and which of these wait
pub record Waiting : Type 0 where
  pub weights : List ℕ
  pub waits : Assignment

-- the weight of variable v
abbrev pub weight_of : List ℕ → ℕ → ℕ
weight_of W v = slice_index_or W (v - 1) 0

-- the one of less weight, of two of the same weight the first
abbrev pub lighter_by : (ℕ → ℕ) → ℕ → Option ℕ → Option ℕ
lighter_by w x None = Some x
lighter_by w x (Some y) = if nat_le (w x) (w y) then Some x else Some y

abbrev pub lightest_by : (ℕ → ℕ) → List ℕ → Option ℕ
lightest_by w [] = None
lightest_by w (x ∷ xs) = lighter_by w x (lightest_by w xs)

-- the lightest of those that wait and have few pairs
abbrev pub first_of : Waiting → Option ℕ
first_of q = lightest_by (weight_of q.weights) (filter (λ x. value q.waits x && nat_le (weight_of q.weights x) most_pairs) (variables (length q.waits)))
