-- The outcomes of cubes.
use Rattle.std.specs.Prelude.{List}
use Rattle.theory.specs.Learning.{Line}
use Rattle.theory.specs.Search as search
use Rattle.cdcl.specs.declared.api.outcome.Outcome.{Outcome}
use Rattle.cdcl.specs.declared.api.outcome.Outcome.TheVariants.{Model, Refuted, Exhausted}

-- a row and a refutation are both seen as the lines that they have, and so the outcomes with them
-- are of one type
abbrev pub LinesOutcome : Type 0
LinesOutcome = Outcome (List Line)

-- the outcome as the definition of a search has it, where a refuted cube keeps what has these lines
abbrev pub outcome_by : {L : Type 0} → (L → List Line) → Outcome L → search.Outcome
outcome_by lines (Model values) = search.model values.items
outcome_by lines (Refuted kept) = search.refuted (lines kept)
outcome_by lines (Exhausted var) = search.exhausted var

-- and where it keeps its lines
abbrev pub outcome_of : LinesOutcome → search.Outcome
outcome_of o = outcome_by (λ lines. lines) o
