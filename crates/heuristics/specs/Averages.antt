-- The glues by whose averages the focused search restarts.
use Rattle.std.specs.Prelude.{ℕ}
use Rattle.theory.specs.Plans.{Constants}
use Rattle.theory.specs.Modes.{Mode}
use Rattle.theory.specs.Restarts.{Glues, no_glues, glues_after}

-- the numbers of the search, and its glues
pub record Averages : Type 0 where
  pub constants : Constants
  pub glues : Glues

abbrev pub first_averages : Constants → Averages
first_averages c = record { constants = c; glues = no_glues }

-- after a conflict in a mode whose line has this glue
abbrev pub with_next : Averages → Mode → ℕ → Averages
with_next a mode g = record a { glues = glues_after a.constants mode g a.glues }
