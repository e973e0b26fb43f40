-- What a whole run by a strategy writes. Source: the output rules of the SAT Competition; that one
-- text is fixed by the bytes and the strategy is this project's promise.
use Rattle.std.specs.Prelude.{◌≡◌, ℕ, List, [], ◌⊎◌, Some}
use Rattle.theory.specs.Truth.{Formula, Assignment}
use Rattle.theory.specs.Plans.{Plan}
use Rattle.theory.specs.FirstModel.{IsFound}
use Rattle.theory.specs.Texts.{answer_text}
use Rattle.theory.specs.Reading.{Limits, ReadsWithin, formula}
use Rattle.theory.specs.Written.{IsUnsatisfiableText}
use Rattle.strategies.specs.Strategies.{Strategy, search_by}
use Rattle.strategies.specs.Choosing.{IsChosen, IsModelBy}

-- the texts for a satisfiable formula: an empty proof, and the model that is the answer
pub record IsModelText (F : Formula) (s : Strategy) (proof_bytes answer_bytes : List ℕ) : Type 0 where
  pub model : Assignment
  pub found : IsFound (search_by s) F model
  pub is_answer : IsModelBy s.lowers F s model
  pub proof_is : proof_bytes ≡ []
  pub answer_is : answer_bytes ≡ answer_text (Some model)

-- the texts for one that isn't: those of the chosen plan
pub record IsRefutationText (F : Formula) (s : Strategy) (proof_bytes answer_bytes : List ℕ) : Type 0 where
  pub plan : Plan
  pub chosen : IsChosen F s plan
  pub text : IsUnsatisfiableText F plan proof_bytes answer_bytes

-- for the text of a formula and a strategy, these are the proof and the answer
pub record IsWrittenBy (L : Limits) (bytes : List ℕ) (s : Strategy) (proof_bytes answer_bytes : List ℕ) : Type 0 where
  pub value : Formula
  pub reads : ReadsWithin L bytes (formula value)
  pub texts : IsModelText value s proof_bytes answer_bytes ⊎ IsRefutationText value s proof_bytes answer_bytes
