-- What a run over stored facts has written that goes through the tree once, and writes the proof on
-- the way.
use Rattle.std.specs.Prelude.{◌≡◌, ℕ, ◌+◌, Bool, true, false, List, ◌++◌, Option, take, IfSome}
use Rattle.std.specs.Io.KnownBytes.{Appends, Keeps}
use Rattle.theory.specs.Truth.{Formula, Satisfiable}
use Rattle.theory.specs.Plans.{Search, Plan}
use Rattle.theory.specs.Steps.{Step}
use Rattle.theory.specs.Texts.{proof_text}
use Rattle.theory.specs.Reading.{Limits, ReadsWithin, formula, max_bytes}
use Rattle.runs.specs.Run.{IsUnreadable}
use Rattle.runs.specs.Stored.{IsProofText, StopsInRightAnswer}
use Rattle.runs.specs.declared.fault.RunFault.{RunFault}
use Rattle.runs.specs.declared.fault.RunFault.TheVariants.{Read, NoMemory, ProofWriteFailed, AnswerWriteFailed, ProofReadFailed}

-- whether the formula is refuted: so it is, and its proof is written, or it is satisfiable
abbrev pub WritesIfRefuted : Formula → Plan → Type 0 → Option (List ℕ) → Option (List ℕ) → Bool → Type 0
WritesIfRefuted F plan are_true a b true = ¬ (Satisfiable F) × (text : List ℕ) × IsProofText F plan are_true text × Appends a b text
WritesIfRefuted F plan are_true a b false = Satisfiable F

-- the same behind the lines before
abbrev pub WritesAllIfRefuted : Formula → Plan → Type 0 → List Step → Option (List ℕ) → Option (List ℕ) → Bool → Type 0
WritesAllIfRefuted F plan are_true before a b true = ¬ (Satisfiable F) × (text : List ℕ) × IsProofText F plan are_true text × Appends a b (proof_text before ++ text)
WritesAllIfRefuted F plan are_true before a b false = Satisfiable F

-- the formula of the bytes that a reader gave, where it tells them, is satisfiable, so that it has
-- no proof; and no answer is written
pub record HasNoProof (L : Limits) (known a b : Option (List ℕ)) : Type 0 where
  pub bytes : List ℕ
  pub are : IfSome known (λ xs. bytes ≡ take (max_bytes L + 1) xs)
  pub value : Formula
  pub reads : ReadsWithin L bytes (formula value)
  pub satisfiable : Satisfiable value
  pub answer_kept : Keeps a b

-- what a fault leaves, whatever a store gives: no answer stands behind a proof that isn't whole
abbrev pub LeavesAtOnce : Limits → Search → Option (List ℕ) → Option (List ℕ) → Option (List ℕ) → Option (List ℕ) → Option (List ℕ) → RunFault → Type 0
LeavesAtOnce L search known p q a b (Read fault) = IsUnreadable L known p q a b fault
LeavesAtOnce L search known p q a b NoMemory = Keeps a b
LeavesAtOnce L search known p q a b ProofWriteFailed = Keeps a b
LeavesAtOnce L search known p q a b AnswerWriteFailed = StopsInRightAnswer L search known p q a b
LeavesAtOnce L search known p q a b ProofReadFailed = ⊥
