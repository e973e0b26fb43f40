-- The texts that an answer with a model is made of. Source: the output rules of the SAT Competition;
-- what is said of a model that need not be the first is this project's.
use Rattle.std.specs.Prelude.{ℕ, List, ◌++◌, codes, decimal}
use Rattle.theory.specs.Truth.{Assignment}
use Rattle.theory.specs.Texts.{value_lines, clause_words, assigned_literals}

-- the status line of a satisfiable formula
abbrev pub status_text : List ℕ
status_text = codes "s SATISFIABLE\n"

-- the value lines of a model
abbrev pub values_text : Assignment → List ℕ
values_text M = value_lines (codes "v") (clause_words (assigned_literals 1 M))

-- what is said of a model whose first k of n variables have the first model's values
abbrev pub limit_text : ℕ → ℕ → List ℕ
limit_text k n = codes "c this model satisfies the formula, and need not be the first: time was up (variable " ++ decimal k ++ codes " of " ++ decimal n ++ codes " is settled)\n"
