-- Lines as they are remembered for contracts alone, one after the other.
use Rattle.std.specs.Prelude.{List, [], ◌∷◌, ◌++◌, Option, Some, None}
use Rattle.std.specs.declared.snapshot.Snapshot.{Snapshot}
use Rattle.theory.specs.Learning.{Line}
use Rattle.cdcl.specs.declared.search.past_lines.PastLine.{PastLine}
use Rattle.cdcl.specs.declared.search.past_lines.PastLine.TheVariants.{Empty, Learnt, Unit}

-- the lines before, and the last one
abbrev pub past : Option (Snapshot (List Line)) → PastLine → List Line
past None l = []
past (Some s) Empty = s.value ++ record { clause = []; hints = []; forgets = [] } ∷ []
past (Some s) (Learnt c h f) = s.value ++ record { clause = c.value.items; hints = h.value.items; forgets = f.value.items } ∷ []
past (Some s) (Unit l h) = s.value ++ record { clause = l ∷ []; hints = h.value.items; forgets = [] } ∷ []
