-- What `check --drat` has read and written, by how it ends, and what that says of the formula.
use Rattle.std.specs.Prelude.{◌≡◌, ℕ, ◌+◌, List, Option, take, IfSome, Result}
use Rattle.theory.specs.Truth.{Formula, Satisfiable}
use Rattle.theory.specs.Reading.{Limits, ReadsWithin, formula, max_bytes}
use Rattle.runs.specs.Drat.{DratSays}
use Rattle.runs.specs.declared.fault.RunFault.{RunFault}
use Rattle.runs.specs.declared.checked_line.Checked.{Checked}
use Rattle.commands.specs.Ends.{end_of}
use Rattle.commands.specs.declared.checking.CheckEnd.{CheckEnd}
use Rattle.commands.specs.declared.checking.CheckEnd.TheVariants.{Accepted, Refused, Fault}

-- no assignment satisfies the formula in the bytes that a reader gave, where it tells them
pub record IsReadUnsatisfiable (L : Limits) (known : Option (List ℕ)) : Type 0 where
  pub bytes : List ℕ
  pub are : IfSome known (λ xs. bytes ≡ take (max_bytes L + 1) xs)
  pub value : Formula
  pub reads : ReadsWithin L bytes (formula value)
  pub none : ¬ (Satisfiable value)

-- a check accepts only where no assignment satisfies the formula
abbrev pub IsDratEnd : Limits → Option (List ℕ) → CheckEnd → Type 0
IsDratEnd L known Accepted = IsReadUnsatisfiable L known
IsDratEnd L known Refused = Unit {0}
IsDratEnd L known Fault = Unit {0}

-- what a run of the checker says, by how the check ended
abbrev pub DratEnds : Limits → Option (List ℕ) → Option (List ℕ) → Option (List ℕ) → CheckEnd → Type 0
DratEnds L known a b end = (r : Result Checked RunFault) × DratSays L known a b r × (end ≡ end_of r)
