-- What `solve` and `check` have read and written, by how they end.
use Rattle.std.specs.Prelude.{◌≡◌, ℕ, List, Option, Result, Ok, Err}
use Rattle.theory.specs.Reading.{Limits}
use Rattle.lrat.specs.declared.variables.Variables.{Variables}
use Rattle.strategies.specs.Strategies.{Strategy}
use Rattle.runs.specs.Limited.{LimitedSays}
use Rattle.runs.specs.Check.{CheckSays}
use Rattle.runs.specs.declared.fault.RunFault.{RunFault}
use Rattle.runs.specs.declared.verdict.RunEnd.{RunEnd}
use Rattle.runs.specs.declared.checked_line.Checked.{Checked}
use Rattle.runs.specs.declared.checked_line.Checked.TheVariants as checked
use Rattle.commands.specs.Status.{solve_status}
use Rattle.commands.specs.declared.checking.CheckEnd.{CheckEnd}
use Rattle.commands.specs.declared.checking.CheckEnd.TheVariants.{Accepted, Refused, Fault}

-- what a run with a limit says, by the status
abbrev pub SolveEnds : Limits → Type 0 → Option (List ℕ) → Strategy → Option (Option (List ℕ)) → Option (List ℕ) → Option (List ℕ) → ℕ → Type 0
SolveEnds L reached known strategy p a b status = (r : Result RunEnd RunFault) × LimitedSays L reached known strategy p a b r × (status ≡ solve_status r)

abbrev pub end_of : Result Checked RunFault → CheckEnd
end_of (Ok checked.Accepted) = Accepted
end_of (Ok checked.Refused) = Refused
end_of (Err fault) = Fault

-- what a run of the checker says, by how the check ended
abbrev pub CheckEnds : Limits → Variables → Option (List ℕ) → Option (List ℕ) → Option (List ℕ) → Option (List ℕ) → CheckEnd → Type 0
CheckEnds L variables known proof a b end = (r : Result Checked RunFault) × CheckSays L variables known proof a b r × (end ≡ end_of r)
