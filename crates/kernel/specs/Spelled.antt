-- A clause as it is remembered for contracts alone, literal by literal.
use Rattle.std.specs.Prelude.{[], ◌∷◌, ◌++◌, Option, Some, None}
use Rattle.std.specs.declared.snapshot.Snapshot.{Snapshot}
use Rattle.theory.specs.Literals.{Literal, Clause}

-- the literals before, and the last one; none where nothing was before
abbrev pub spelled : Option (Snapshot Clause) → Literal → Clause
spelled None l = []
spelled (Some s) l = s.value ++ l ∷ []
