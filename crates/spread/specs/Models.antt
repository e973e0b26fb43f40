-- Where models were found.
use Rattle.std.specs.Prelude.{ℕ, if◌then◌else◌}
use Rattle.theory.specs.Literals.{Literal}

-- the sign of a literal in a name: 1, and 0 for a negative one
abbrev pub sign : Literal → ℕ
sign l = if l.positive then 49 else 48
