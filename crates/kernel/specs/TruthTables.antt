-- What the table of a trail's truths says.
use Rattle.std.specs.Prelude.{◌≡◌, ◌+◌, ◌*◌, ◌≤◌, List, length, slice_index_or}
use Rattle.theory.specs.Literals.{Literal}
use Rattle.theory.specs.Trails.{literals}
use Rattle.cnf.specs.Lits.{code}
use Rattle.trail.specs.TrailOver.{TrailOver, IsOrdered}
use Rattle.trail.specs.Tables.{IsTruth, value_of}
use Rattle.trail.specs.declared.truth.Truth.{Truth}
use Rattle.trail.specs.declared.truth.Truth.TheVariants.{Unassigned}

-- at its code, each literal has what the trail says of it
pub record AreTruths (T : TrailOver) (table : List Truth) : Type 0 where
  pub ordered : IsOrdered T.vars T.entries
  pub long : length table ≡ 2 * T.vars + 2
  pub truth : (l : Literal) → l.var ≤ T.vars → IsTruth (literals T.entries) l (value_of (slice_index_or table (code l) Unassigned))
