-- How a check ends, what that says of the formula, and the exit status.
use Rattle.std.specs.Prelude.{◌≡◌, ℕ, ◌+◌, Bool, true, false, List, Option, take, IfSome}
use Rattle.theory.specs.Truth.{Formula, Satisfiable}
use Rattle.theory.specs.Steps.{Step}
use Rattle.theory.specs.Reading.{Limits, ReadsWithin, formula, max_bytes}
use Rattle.theory.specs.ProofReading.{ProofReadsWithin, steps, max_proof_bytes}
use Rattle.theory.specs.Checking.{checks, accepted}
use Rattle.lrat.specs.declared.variables.Variables.{Variables}
use Rattle.lrat.specs.Extended.{checked_formula}
use Rattle.commands.specs.declared.checking.CheckEnd.{CheckEnd}
use Rattle.commands.specs.declared.checking.CheckEnd.TheVariants.{Accepted, Refused, Fault}

abbrev pub check_status : CheckEnd → Bool → ℕ
check_status Accepted distinct = 0
check_status Refused distinct = 1
check_status Fault true = 2
check_status Fault false = 1

-- the text of a proof is read as steps that the checker accepts
abbrev pub IsProofOf : Limits → Variables → Formula → List ℕ → Type 0
IsProofOf L variables F proof = (ss : List Step) × ProofReadsWithin L proof (steps ss) × (checks (checked_formula L variables F) ss ≡ accepted)

-- so it is with the formula and the text of the proof in the bytes that two readers gave, where
-- they tell them
pub record AreRead (L : Limits) (known proof_known : Option (List ℕ)) (So : Formula → List ℕ → Type 0) : Type 0 where
  pub bytes : List ℕ
  pub are : IfSome known (λ xs. bytes ≡ take (max_bytes L + 1) xs)
  pub value : Formula
  pub reads : ReadsWithin L bytes (formula value)
  pub proof : List ℕ
  pub proof_is : IfSome proof_known (λ xs. proof ≡ take (max_proof_bytes L + 1) xs)
  pub so : So value proof

-- a check accepts just where the proof is one of the formula, which no assignment satisfies then
abbrev pub IsCheckEnd : Limits → Variables → Option (List ℕ) → Option (List ℕ) → CheckEnd → Type 0
IsCheckEnd L variables known proof_known Accepted = AreRead L known proof_known (λ F proof. IsProofOf L variables F proof × ¬ (Satisfiable F))
IsCheckEnd L variables known proof_known Refused = AreRead L known proof_known (λ F proof. ¬ (IsProofOf L variables F proof))
IsCheckEnd L variables known proof_known Fault = Unit {0}
