-- The lines before those of a tree that are still to come.
use Rattle.std.specs.Prelude.{◌≤◌, List}
use Rattle.theory.specs.Steps.{Step}
use Rattle.theory.specs.ProofReading.{max_number}
use Rattle.simplify.specs.Made.{steps_from}
use Rattle.join.specs.declared.before.LinesBefore.{LinesBefore}

abbrev pub before_left : LinesBefore → List Step
before_left l = steps_from l.last l.rows

-- what is kept between two lines
abbrev pub IsBefore : LinesBefore → Type 0
IsBefore l = l.last ≤ max_number
