-- What `tidy` has read and written, by its status.
use Rattle.std.specs.Prelude.{◌≡◌, ℕ, List, Option, Result, Ok, Err}
use Rattle.theory.specs.Reading.{Limits}
use Rattle.runs.specs.Tidy.{TidySays}
use Rattle.runs.specs.declared.fault.RunFault.{RunFault}

abbrev pub tidy_status : {X : Type 0} → Result X RunFault → ℕ
tidy_status (Ok x) = 0
tidy_status (Err fault) = 1

-- what a run says, by the status
abbrev pub TidyEnds : Limits → Option (List ℕ) → Option (List ℕ) → Option (List ℕ) → ℕ → Type 0
TidyEnds L known a b status = (r : Result (Unit {0}) RunFault) × TidySays L known a b r × (status ≡ tidy_status r)
