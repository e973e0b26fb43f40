-- What a run of `tidy` has read and written.
use Rattle.std.specs.Prelude.{◌≡◌, ℕ, ◌+◌, List, Option, IfSome, take, Result, Ok, Err}
use Rattle.std.specs.Io.KnownBytes.{Appends, Keeps}
use Rattle.theory.specs.Truth as truth
use Rattle.theory.specs.Reading.{Limits, ReadsWithin, formula, max_bytes}
use Rattle.tidying.specs.Tidied.{tidied}
use Rattle.tidying.specs.Texts.{formula_text}
use Rattle.runs.specs.Check.{IsUnchecked}
use Rattle.runs.specs.declared.fault.RunFault.{RunFault}
use Rattle.runs.specs.declared.fault.RunFault.TheVariants.{Read, NoMemory, ProofWriteFailed, AnswerWriteFailed, ProofReadFailed}

-- the text of the formula that the reader's bytes are read as, without what repeats
pub record IsTidyOf (L : Limits) (known : Option (List ℕ)) (text : List ℕ) : Type 0 where
  pub bytes : List ℕ
  pub are : IfSome known (λ xs. bytes ≡ take (max_bytes L + 1) xs)
  pub value : truth.Formula
  pub reads : ReadsWithin L bytes (formula value)
  pub is : text ≡ formula_text (tidied value)

-- what a run answers of its reader's bytes, and what it leaves in its writer
abbrev pub TidySays : {X : Type 0} → Limits → Option (List ℕ) → Option (List ℕ) → Option (List ℕ) → Result X RunFault → Type 0
TidySays L known a b (Ok x) = (text : List ℕ) × IsTidyOf L known text × Appends a b text
TidySays L known a b (Err (Read fault)) = IsUnchecked L known a b fault
TidySays L known a b (Err NoMemory) = Keeps a b
TidySays L known a b (Err ProofWriteFailed) = ⊥
TidySays L known a b (Err AnswerWriteFailed) = (text : List ℕ) × IsTidyOf L known text × ((count : ℕ) × Appends a b (take count text))
TidySays L known a b (Err ProofReadFailed) = ⊥
