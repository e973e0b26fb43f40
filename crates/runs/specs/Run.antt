-- What a run has read and written.
use Rattle.std.specs.Prelude.{◌≡◌, ◌≢◌, ℕ, ◌+◌, List, Option, take, IfSome, Result, Ok, Err, ◌⊎◌}
use Rattle.std.specs.Io.KnownBytes.{Appends, Keeps}
use Rattle.theory.specs.Truth as truth
use Rattle.theory.specs.Reading.{Limits, ReadsWithin, formula, max_bytes}
use Rattle.cnf.specs.declared.fault.ReadFault.{ReadFault}
use Rattle.cnf.specs.declared.fault.ReadFault.TheVariants as reading
use Rattle.cnf.specs.Faults.{IsReadOf}
use Rattle.strategies.specs.Strategies.{Strategy}
use Rattle.strategies.specs.Texts.{IsModelText, IsRefutationText}
use Rattle.runs.specs.Answer.{IsAccepted}
use Rattle.runs.specs.declared.fault.RunFault.{RunFault}
use Rattle.runs.specs.declared.fault.RunFault.TheVariants.{Read, NoMemory, ProofWriteFailed, AnswerWriteFailed, ProofReadFailed}
use Rattle.runs.specs.declared.verdict.Verdict.{Verdict}
use Rattle.runs.specs.declared.verdict.Verdict.TheVariants.{Satisfiable, Unsatisfiable}

-- the texts of the proof and the answer for a formula and a strategy, and the verdict that they give
abbrev pub AreTexts : Limits → truth.Formula → Strategy → Verdict → List ℕ → List ℕ → Type 0
AreTexts L F strategy Satisfiable proof answer = IsModelText F strategy proof answer
AreTexts L F strategy Unsatisfiable proof answer = IsRefutationText F strategy proof answer × IsAccepted L F proof

-- the texts for the formula of the bytes that a reader gave, where it tells them
pub record IsRunOf (L : Limits) (known : Option (List ℕ)) (strategy : Strategy) (verdict : Verdict) (proof answer : List ℕ) : Type 0 where
  pub bytes : List ℕ
  pub are : IfSome known (λ xs. bytes ≡ take (max_bytes L + 1) xs)
  pub value : truth.Formula
  pub reads : ReadsWithin L bytes (formula value)
  pub texts : AreTexts L value strategy verdict proof answer

-- the proof and the answer are written whole
pub record WritesBoth (L : Limits) (known : Option (List ℕ)) (strategy : Strategy) (proof_old proof_new answer_old answer_new : Option (List ℕ)) (verdict : Verdict) : Type 0 where
  pub proof : List ℕ
  pub answer : List ℕ
  pub run : IsRunOf L known strategy verdict proof answer
  pub proof_written : Appends proof_old proof_new proof
  pub answer_written : Appends answer_old answer_new answer

-- a beginning of the proof is written, and no answer
pub record StopsInProof (L : Limits) (known : Option (List ℕ)) (strategy : Strategy) (proof_old proof_new answer_old answer_new : Option (List ℕ)) : Type 0 where
  pub verdict : Verdict
  pub proof : List ℕ
  pub answer : List ℕ
  pub run : IsRunOf L known strategy verdict proof answer
  pub count : ℕ
  pub proof_written : Appends proof_old proof_new (take count proof)
  pub answer_kept : Keeps answer_old answer_new

-- the whole proof is written, and a beginning of the answer
pub record StopsInAnswer (L : Limits) (known : Option (List ℕ)) (strategy : Strategy) (proof_old proof_new answer_old answer_new : Option (List ℕ)) : Type 0 where
  pub verdict : Verdict
  pub proof : List ℕ
  pub answer : List ℕ
  pub run : IsRunOf L known strategy verdict proof answer
  pub count : ℕ
  pub proof_written : Appends proof_old proof_new proof
  pub answer_written : Appends answer_old answer_new (take count answer)

-- nothing is written, as the formula was refused just as the definition of reading says, or the
-- reader failed
pub record IsUnreadable (L : Limits) (known : Option (List ℕ)) (proof_old proof_new answer_old answer_new : Option (List ℕ)) (fault : ReadFault) : Type 0 where
  pub refused : (fault ≡ reading.ReadFailed) ⊎ IsReadOf L known (Err fault)
  pub not_memory : fault ≢ reading.NoMemory
  pub proof_kept : Keeps proof_old proof_new
  pub answer_kept : Keeps answer_old answer_new

-- what a run by the strategy answers of the bytes of its reader, and what it leaves in its writers
abbrev pub RunSays : Limits → Option (List ℕ) → Strategy → Option (List ℕ) → Option (List ℕ) → Option (List ℕ) → Option (List ℕ) → Result Verdict RunFault → Type 0
RunSays L known strategy p q a b (Ok verdict) = WritesBoth L known strategy p q a b verdict
RunSays L known strategy p q a b (Err (Read fault)) = IsUnreadable L known p q a b fault
RunSays L known strategy p q a b (Err NoMemory) = Keeps p q × Keeps a b
RunSays L known strategy p q a b (Err ProofWriteFailed) = StopsInProof L known strategy p q a b
RunSays L known strategy p q a b (Err AnswerWriteFailed) = StopsInAnswer L known strategy p q a b
RunSays L known strategy p q a b (Err ProofReadFailed) = ⊥
