-- That the answer of a run is right, without which of a formula's proofs is written. It needs
-- truth, models, texts and their reading, and checking, and nothing of the search but its name.
use Rattle.std.specs.Prelude.{◌≡◌, ℕ, ◌+◌, ◌≤◌, List, length, Option, Some, None, take, codes, IfSome}
use Rattle.std.specs.Io.KnownBytes.{Appends}
use Rattle.theory.specs.Truth.{Formula, Assignment, Satisfiable}
use Rattle.theory.specs.Plans.{Search}
use Rattle.theory.specs.FirstModel.{IsFound}
use Rattle.theory.specs.Texts.{answer_text}
use Rattle.theory.specs.Reading.{Limits, ReadsWithin, formula, max_bytes}
use Rattle.theory.specs.Steps.{Step}
use Rattle.theory.specs.ProofReading.{ProofReadsWithin, steps, max_proof_bytes}
use Rattle.theory.specs.Checking.{checks, accepted}
use Rattle.runs.specs.declared.verdict.RunEnd.{RunEnd}
use Rattle.runs.specs.declared.verdict.RunEnd.TheVariants.{Decided, NotFirst, Unknown}
use Rattle.runs.specs.declared.verdict.Verdict.{Verdict}
use Rattle.runs.specs.declared.verdict.Verdict.TheVariants as verdict

-- the answer without a verdict
abbrev pub unknown_text : List ℕ
unknown_text = codes "s UNKNOWN\n"

-- where a proof's text is no longer than such a text may be, it is read as steps that the checker
-- accepts
abbrev pub IsAccepted : Limits → Formula → List ℕ → Type 0
IsAccepted L F proof = length proof ≤ max_proof_bytes L → (ss : List Step) × ProofReadsWithin L proof (steps ss) × (checks F ss ≡ accepted)

-- the verdict on the formula, with the texts of the proof and the answer: some assignment satisfies
-- it, and such a one is in the answer, by the ordered search the first; or none does, and the proof
-- is accepted
abbrev pub IsRight : Limits → Search → Formula → Verdict → List ℕ → List ℕ → Type 0
IsRight L search F verdict.Satisfiable proof answer = (M : Assignment) × IsFound search F M × (answer ≡ answer_text (Some M))
IsRight L search F verdict.Unsatisfiable proof answer = ¬ (Satisfiable F) × IsAccepted L F proof × (answer ≡ answer_text None)

-- the right answer to the formula of the bytes that a reader gave, where it tells them, is what the
-- writers got
pub record IsRightAnswer (L : Limits) (search : Search) (known proof_old proof_new answer_old answer_new : Option (List ℕ)) (verdict : Verdict) : Type 0 where
  pub bytes : List ℕ
  pub are : IfSome known (λ xs. bytes ≡ take (max_bytes L + 1) xs)
  pub value : Formula
  pub reads : ReadsWithin L bytes (formula value)
  pub proof : List ℕ
  pub answer : List ℕ
  pub right : IsRight L search value verdict proof answer
  pub proof_written : Appends proof_old proof_new proof
  pub answer_written : Appends answer_old answer_new answer

-- where a run with a limit ends with a verdict, that is right, with the texts that were written
abbrev pub IsRightEnd : Limits → Search → Option (List ℕ) → Option (List ℕ) → Option (List ℕ) → Option (List ℕ) → Option (List ℕ) → RunEnd → Type 0
IsRightEnd L search known p q a b (Decided verdict) = IsRightAnswer L search known p q a b verdict
IsRightEnd L search known p q a b NotFirst = Unit {0}
IsRightEnd L search known p q a b Unknown = Unit {0}
