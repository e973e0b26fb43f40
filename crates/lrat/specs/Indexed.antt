-- Occurrences of the literals of clauses.
use Rattle.std.specs.Prelude.{◌≤◌, List, length, take}
use Rattle.theory.specs.Literals.{Literal}
use Rattle.lrat.specs.declared.counts.Counts.{Counts}
use Rattle.lrat.specs.declared.occurrences.Occurrences.{Occurrences}
use Rattle.lrat.specs.Chained.{AreChains}
use Rattle.cnf.specs.Lits.{code}
use Rattle.lrat.specs.Occurrences.{count_at, slots_with, AreEntered}
use Rattle.lrat.specs.Slots.{Slot}

-- of the slots before a place, no more have a literal than its count says
pub record AreCounted (slots : List Slot) (o : Counts) : Type 0 where
  pub within : o.counted ≤ length slots
  pub most : (l : Literal) → slots_with l (take o.counted slots) ≤ count_at o.counts.items (code l)

-- the slots before a place are entered
pub record IsIndexed (slots : List Slot) (o : Occurrences) : Type 0 where
  pub counted : AreCounted slots o.counts
  pub within : o.entered ≤ length slots
  pub chains : AreChains o.chains
  pub entered : AreEntered slots o.chains o.entered
