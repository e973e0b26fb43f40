-- What a run of the checker has read and written.
use Rattle.std.specs.Prelude.{◌≡◌, ◌≢◌, ℕ, ◌+◌, List, [], ◌∷◌, ◌++◌, Option, Some, None, take, codes, decimal, IfSome, Result, Ok, Err, ◌⊎◌}
use Rattle.std.specs.Io.KnownBytes.{Appends, Keeps}
use Rattle.theory.specs.Truth as truth
use Rattle.theory.specs.Texts.{lf}
use Rattle.theory.specs.Reading.{Limits, ReadsWithin, formula, max_bytes}
use Rattle.theory.specs.ProofReading.{ProofReading, ProofReadsWithin, steps, line_fault, too_long, max_proof_bytes}
use Rattle.theory.specs.Checking.{checks, accepted, refused, no_empty_clause}
use Rattle.theory.specs.Checking as theory
use Rattle.theory.specs.Numbers.{check_text}
use Rattle.cnf.specs.declared.fault.ReadFault.{ReadFault}
use Rattle.cnf.specs.declared.fault.ReadFault.TheVariants as reading
use Rattle.cnf.specs.Faults.{IsReadOf}
use Rattle.lrat_text.specs.declared.fault.TextFault.{TextFault}
use Rattle.lrat_text.specs.declared.fault.TextFault.TheVariants as texts
use Rattle.lrat.specs.declared.check_fault.CheckFault.{CheckFault}
use Rattle.lrat.specs.CheckFaults.{check_fault_step}
use Rattle.lrat.specs.declared.variables.Variables.{Variables}
use Rattle.lrat.specs.Extended.{checked_formula}
use Rattle.runs.specs.declared.fault.RunFault.{RunFault}
use Rattle.runs.specs.declared.fault.RunFault.TheVariants.{Read, NoMemory, ProofWriteFailed, AnswerWriteFailed, ProofReadFailed}
use Rattle.runs.specs.declared.check.Told.{Told}
use Rattle.runs.specs.declared.checked_line.Checked.{Checked}
use Rattle.runs.specs.declared.checked_line.Checked.TheVariants.{Accepted, Refused}
use Rattle.runs.specs.declared.checked_line.Place.{Place}
use Rattle.runs.specs.declared.checked_line.Place.TheVariants.{Step, Line}

-- the line of a proof that is refused
abbrev pub place_text : Place → List ℕ
place_text (Step n) = codes " step " ++ decimal n
place_text (Line n) = codes " line " ++ decimal n

abbrev pub refused_text : ℕ → Place → List ℕ
refused_text number place = (codes "refused " ++ (decimal number ++ place_text place)) ++ lf ∷ []

-- where a text or its steps are at fault, where it is one place
abbrev pub place_in_text : TextFault → Option Place
place_in_text (texts.BadNumber n) = Some (Line n)
place_in_text (texts.LineNotEnded n) = Some (Line n)
place_in_text (texts.BadShape n) = Some (Line n)
place_in_text texts.TooLong = None
place_in_text texts.NoMemory = None

abbrev pub place_in_steps : CheckFault → Option Place
place_in_steps fault = elim (check_fault_step fault) [ Some n ↦ Some (Step n) | None ↦ None ]

abbrev pub checked_of : theory.Checked → Checked
checked_of accepted = Accepted
checked_of (refused fault step) = Refused
checked_of no_empty_clause = Refused

-- accepted just where the proof is read as steps that the definition of checking accepts
abbrev pub verdict_of : truth.Formula → ProofReading → Checked
verdict_of F (steps ss) = checked_of (checks F ss)
verdict_of F (line_fault fault n) = Refused
verdict_of F too_long = Refused

-- the verdict on a proof's bytes, and its line
pub record IsLine (L : Limits) (F : truth.Formula) (proof : List ℕ) (checked : Checked) (line : List ℕ) : Type 0 where
  pub read_as : ProofReading
  pub reads : ProofReadsWithin L proof read_as
  pub verdict : checked ≡ verdict_of F read_as
  pub line_is : line ≡ check_text F read_as

-- the same for the bytes that two readers gave, where they tell them, of the formula over the
-- variables that the proof's clauses may have
pub record IsCheckOf (L : Limits) (variables : Variables) (formula_known proof_known : Option (List ℕ)) (checked : Checked) (line : List ℕ) : Type 0 where
  pub bytes : List ℕ
  pub are : IfSome formula_known (λ xs. bytes ≡ take (max_bytes L + 1) xs)
  pub value : truth.Formula
  pub reads : ReadsWithin L bytes (formula value)
  pub proof : List ℕ
  pub proof_is : IfSome proof_known (λ xs. proof ≡ take (max_proof_bytes L + 1) xs)
  pub says : IsLine L (checked_formula L variables value) proof checked line

pub record WritesLine (L : Limits) (variables : Variables) (formula_known proof_known answer_old answer_new : Option (List ℕ)) (checked : Checked) : Type 0 where
  pub line : List ℕ
  pub check : IsCheckOf L variables formula_known proof_known checked line
  pub written : Appends answer_old answer_new line

pub record StopsInLine (L : Limits) (variables : Variables) (formula_known proof_known answer_old answer_new : Option (List ℕ)) : Type 0 where
  pub checked : Checked
  pub line : List ℕ
  pub check : IsCheckOf L variables formula_known proof_known checked line
  pub count : ℕ
  pub written : Appends answer_old answer_new (take count line)

-- nothing is written, as the formula was refused just as the definition of reading says, or the
-- reader failed
pub record IsUnchecked (L : Limits) (formula_known answer_old answer_new : Option (List ℕ)) (fault : ReadFault) : Type 0 where
  pub refused : (fault ≡ reading.ReadFailed) ⊎ IsReadOf L formula_known (Err fault)
  pub not_memory : fault ≢ reading.NoMemory
  pub kept : Keeps answer_old answer_new

-- nothing is written, and it isn't for the formula, which was read
pub record IsProofUnread (L : Limits) (formula_known answer_old answer_new : Option (List ℕ)) : Type 0 where
  pub bytes : List ℕ
  pub are : IfSome formula_known (λ xs. bytes ≡ take (max_bytes L + 1) xs)
  pub value : truth.Formula
  pub reads : ReadsWithin L bytes (formula value)
  pub kept : Keeps answer_old answer_new

-- what a run of the checker answers of the bytes of its readers, and what it leaves in its writer
abbrev pub CheckSays : Limits → Variables → Option (List ℕ) → Option (List ℕ) → Option (List ℕ) → Option (List ℕ) → Result Checked RunFault → Type 0
CheckSays L variables known proof a b (Ok checked) = WritesLine L variables known proof a b checked
CheckSays L variables known proof a b (Err (Read fault)) = IsUnchecked L known a b fault
CheckSays L variables known proof a b (Err NoMemory) = Keeps a b
CheckSays L variables known proof a b (Err ProofWriteFailed) = ⊥
CheckSays L variables known proof a b (Err AnswerWriteFailed) = StopsInLine L variables known proof a b
CheckSays L variables known proof a b (Err ProofReadFailed) = IsProofUnread L known a b

-- the verdict of a check that also tells why
abbrev pub checked_by : Result Told RunFault → Result Checked RunFault
checked_by (Ok told) = Ok told.checked
checked_by (Err fault) = Err fault
