-- What a run of the checker of proofs in DRAT has read and written.
use Rattle.std.specs.Prelude.{◌≡◌, ℕ, ◌+◌, List, [], ◌∷◌, ◌++◌, Option, take, codes, IfSome, Result, MatchResult, Ok, Err, ◌⊎◌}
use Rattle.std.specs.Io.KnownBytes.{Appends, Keeps}
use Rattle.theory.specs.Truth as truth
use Rattle.theory.specs.Texts.{lf}
use Rattle.theory.specs.Reading.{Limits, ReadsWithin, formula, max_bytes}
use Rattle.theory.specs.ProofReading.{ProofReading, ProofReadsWithin}
use Rattle.theory.specs.Checking.{accepted}
use Rattle.lrat.specs.Running.{IsSaid}
use Rattle.lrat.specs.declared.refusal.Refusal.{Refusal}
use Rattle.lrat_text.specs.Streams as streams
use Rattle.runs.specs.declared.fault.RunFault.{RunFault}
use Rattle.runs.specs.declared.fault.RunFault.TheVariants.{Read, NoMemory, ProofWriteFailed, AnswerWriteFailed, ProofReadFailed}
use Rattle.runs.specs.declared.drat_check.DratTold.{DratTold}
use Rattle.runs.specs.declared.checked_line.Checked.{Checked}
use Rattle.runs.specs.declared.checked_line.Checked.TheVariants.{Accepted, Refused}
use Rattle.runs.specs.Check.{IsUnchecked, IsProofUnread}

-- a verdict and its line: one that accepts is of a formula that nothing satisfies
pub record IsDratLine (F : truth.Formula) (checked : Checked) (line : List ℕ) : Type 0 where
  pub sound : checked ≡ Accepted → ¬ (truth.Satisfiable F)
  pub accepts : checked ≡ Accepted → line ≡ codes "accepted" ++ lf ∷ []

-- the verdict on some text as a proof in LRAT of the formula
pub record JudgesDrat (L : Limits) {X : Type 0} (F : truth.Formula) (verdict : Result X Refusal) : Type 0 where
  pub bytes : List ℕ
  pub says : (r : ProofReading) → ProofReadsWithin L bytes r → MatchResult verdict (λ _. streams.answer_to F r ≡ streams.checked accepted) (IsSaid (streams.answer_to F r))

-- what stops the reading of a proof, or the keeping of the one that is made
abbrev pub IsDratStop : RunFault → Type 0
IsDratStop e = (e ≡ ProofReadFailed) ⊎ (e ≡ NoMemory) ⊎ (e ≡ ProofWriteFailed)

-- the line on the formula that a reader's bytes are read as
pub record IsDratCheckOf (L : Limits) (known : Option (List ℕ)) (checked : Checked) (line : List ℕ) : Type 0 where
  pub bytes : List ℕ
  pub are : IfSome known (λ xs. bytes ≡ take (max_bytes L + 1) xs)
  pub value : truth.Formula
  pub reads : ReadsWithin L bytes (formula value)
  pub says : IsDratLine value checked line

pub record WritesDratLine (L : Limits) (known answer_old answer_new : Option (List ℕ)) (checked : Checked) : Type 0 where
  pub line : List ℕ
  pub check : IsDratCheckOf L known checked line
  pub written : Appends answer_old answer_new line

pub record StopsInDratLine (L : Limits) (known answer_old answer_new : Option (List ℕ)) : Type 0 where
  pub checked : Checked
  pub line : List ℕ
  pub check : IsDratCheckOf L known checked line
  pub count : ℕ
  pub written : Appends answer_old answer_new (take count line)

-- what a run of the checker of proofs in DRAT answers of the bytes of the formula's reader, and what
-- it leaves in its writer
abbrev pub DratSays : Limits → Option (List ℕ) → Option (List ℕ) → Option (List ℕ) → Result Checked RunFault → Type 0
DratSays L known a b (Ok checked) = WritesDratLine L known a b checked
DratSays L known a b (Err (Read fault)) = IsUnchecked L known a b fault
DratSays L known a b (Err NoMemory) = Keeps a b
DratSays L known a b (Err ProofWriteFailed) = IsProofUnread L known a b
DratSays L known a b (Err AnswerWriteFailed) = StopsInDratLine L known a b
DratSays L known a b (Err ProofReadFailed) = IsProofUnread L known a b

-- the verdict of a check that also tells why
abbrev pub drat_by : Result DratTold RunFault → Result Checked RunFault
drat_by (Ok told) = Ok told.checked
drat_by (Err fault) = Err fault
