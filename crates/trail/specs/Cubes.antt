-- What is kept of a cube beside its distinct variables.
use Rattle.std.specs.Prelude.{◌≤◌, List, All}
use Rattle.theory.specs.Literals.{Literal}

-- each literal is of a variable: these are numbered from 1
abbrev pub AreOfVariables : List Literal → Type 0
AreOfVariables Q = All (λ l. 1 ≤ l.var) Q
