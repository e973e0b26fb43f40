-- What the end of a check of a proof in DRAT says of the formula.
use Rattle.std.proofs.Common.{◌≡◌, ℕ, List, Option, Result, Ok, Err, refl}
use Rattle.theory.specs.Reading.{Limits}
use Rattle.runs.specs.Drat.{DratSays}
use Rattle.runs.specs.declared.fault.RunFault.{RunFault}
use Rattle.runs.specs.declared.checked_line.Checked.{Checked}
use Rattle.runs.specs.declared.checked_line.Checked.TheVariants.{Accepted, Refused}
use Rattle.commands.specs.DratEnds.{IsDratEnd}
use Rattle.commands.specs.Ends.{end_of}

pub drat-end : (L : Limits) (known a b : Option (List ℕ)) (r : Result Checked RunFault) → DratSays L known a b r → IsDratEnd L known (end_of r)
drat-end L known a b (Ok Accepted) w = record { bytes = w.check.bytes; are = w.check.are; value = w.check.value; reads = w.check.reads; none = w.check.says.sound refl }
drat-end L known a b (Ok Refused) w = tt
drat-end L known a b (Err fault) w = tt

-- what a run said that was passed a reader with the bytes of another
pub drat-on : (L : Limits) (known' known a b : Option (List ℕ)) (r : Result Checked RunFault) → known' ≡ known → DratSays L known' a b r → DratSays L known a b r
drat-on L known' known a b r of_known says = rw (← of_known) says
