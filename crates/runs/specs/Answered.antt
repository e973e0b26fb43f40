-- What a run without a proof has read and written.
use Rattle.std.specs.Prelude.{◌≡◌, ◌≢◌, ℕ, List, Option, take, Result, Ok, Err, ◌⊎◌}
use Rattle.std.specs.Io.KnownBytes.{Appends, Keeps}
use Rattle.theory.specs.Reading.{Limits}
use Rattle.theory.specs.Truth as truth
use Rattle.strategies.specs.Strategies.{Strategy, search_by}
use Rattle.cnf.specs.declared.fault.ReadFault.{ReadFault}
use Rattle.cnf.specs.declared.fault.ReadFault.TheVariants as reading
use Rattle.cnf.specs.Faults.{IsReadOf}
use Rattle.runs.specs.Answer.{IsRight}
use Rattle.runs.specs.Run.{AreTexts, IsRunOf}
use Rattle.runs.specs.declared.fault.RunFault.{RunFault}
use Rattle.runs.specs.declared.fault.RunFault.TheVariants.{Read, NoMemory, ProofWriteFailed, AnswerWriteFailed, ProofReadFailed}
use Rattle.runs.specs.declared.verdict.Verdict.{Verdict}

-- the verdict and the text of the answer for a formula and a strategy: those that go with its proof
abbrev pub IsAnswerFor : Limits → truth.Formula → Strategy → Verdict → List ℕ → Type 0
IsAnswerFor L F strategy verdict answer = (proof : List ℕ) × AreTexts L F strategy verdict proof answer

-- the answer of the run whose proof this would be, to the formula of the bytes that a reader gave,
-- and it is right
pub record IsAnswerOf (L : Limits) (known : Option (List ℕ)) (strategy : Strategy) (verdict : Verdict) (answer : List ℕ) : Type 0 where
  pub proof : List ℕ
  pub run : IsRunOf L known strategy verdict proof answer
  pub right : IsRight L (search_by strategy) run.value verdict proof answer

-- the answer is written whole
pub record WritesAnswer (L : Limits) (known : Option (List ℕ)) (strategy : Strategy) (old new : Option (List ℕ)) (verdict : Verdict) : Type 0 where
  pub answer : List ℕ
  pub is_answer : IsAnswerOf L known strategy verdict answer
  pub written : Appends old new answer

-- a beginning of it is written
pub record BeginsAnswer (L : Limits) (known : Option (List ℕ)) (strategy : Strategy) (old new : Option (List ℕ)) : Type 0 where
  pub verdict : Verdict
  pub answer : List ℕ
  pub is_answer : IsAnswerOf L known strategy verdict answer
  pub count : ℕ
  pub written : Appends old new (take count answer)

-- nothing is written, as the formula was refused just as the definition of reading says, or the
-- reader failed
pub record IsUnanswered (L : Limits) (known old new : Option (List ℕ)) (fault : ReadFault) : Type 0 where
  pub refused : (fault ≡ reading.ReadFailed) ⊎ IsReadOf L known (Err fault)
  pub not_memory : fault ≢ reading.NoMemory
  pub kept : Keeps old new

-- what a run without a proof answers of the bytes of its reader, and what it leaves in its writer
abbrev pub AnswerSays : Limits → Option (List ℕ) → Strategy → Option (List ℕ) → Option (List ℕ) → Result Verdict RunFault → Type 0
AnswerSays L known strategy old new (Ok verdict) = WritesAnswer L known strategy old new verdict
AnswerSays L known strategy old new (Err (Read fault)) = IsUnanswered L known old new fault
AnswerSays L known strategy old new (Err NoMemory) = Keeps old new
AnswerSays L known strategy old new (Err ProofWriteFailed) = ⊥
AnswerSays L known strategy old new (Err AnswerWriteFailed) = BeginsAnswer L known strategy old new
AnswerSays L known strategy old new (Err ProofReadFailed) = ⊥
