-- How far a model is the first one. Source: the lexicographic order on assignments, least variable
-- first.
use Rattle.std.specs.Prelude.{◌≡◌, ℕ, ◌+◌, ◌≤◌, ◌<◌}
use Rattle.theory.specs.FirstModel.{IsFirst}
use Rattle.theory.specs.Truth.{Formula, Assignment, Satisfies, value}

-- N has the values of M below variable x
abbrev pub Agrees : ℕ → Assignment → Assignment → Type 0
Agrees x M N = (u : ℕ) → 1 ≤ u → u < x → value N u ≡ value M u

-- M satisfies the formula, and its first k variables have the values of the first model
pub record IsFirstUpTo (F : Formula) (k : ℕ) (M : Assignment) : Type 0 where
  pub satisfies : Satisfies F M
  pub within : k ≤ F.vars
  pub settled : (N : Assignment) → IsFirst F N → Agrees (k + 1) M N
