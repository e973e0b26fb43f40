-- What is written once a formula is read: the parts of a run with a limit.
use Rattle.std.specs.Prelude.{◌≡◌, ℕ, ◌++◌, Bool, true, List, [], Option, Some, take, Result, Ok, Err, ◌⊎◌}
use Rattle.std.specs.Io.KnownBytes.{Appends, Keeps}
use Rattle.theory.specs.FirstModel.{IsFirst}
use Rattle.theory.specs.Reading.{Limits}
use Rattle.theory.specs.Texts.{answer_text}
use Rattle.theory.specs.Truth.{Formula, Assignment}
use Rattle.join.specs.Values.{status_text, values_text}
use Rattle.strategies.specs.Deciding.{IsModelOf}
use Rattle.strategies.specs.Strategies.{Strategy}
use Rattle.runs.specs.Answer.{unknown_text}
use Rattle.runs.specs.AtLimit.{IsAnswerAtLimit, WritesAtLimit}
use Rattle.runs.specs.Run.{AreTexts}
use Rattle.runs.specs.Answered.{IsAnswerFor}
use Rattle.runs.specs.Limited.{BeginsAtLimit, BeginsUnknown, WritesStatus}
use Rattle.runs.specs.declared.fault.RunFault.{RunFault}
use Rattle.runs.specs.declared.fault.RunFault.TheVariants.{NoMemory, ProofWriteFailed, AnswerWriteFailed}
use Rattle.runs.specs.declared.verdict.RunEnd.{RunEnd}
use Rattle.runs.specs.declared.verdict.RunEnd.TheVariants.{Decided, NotFirst, Unknown}
use Rattle.runs.specs.declared.verdict.Verdict.{Verdict}
use Rattle.runs.specs.declared.verdict.Verdict.TheVariants.{Satisfiable as Found}

-- what a run that wasn't decided answers, and leaves in the answer's writer
abbrev pub EndsUnsolved : Type 0 → Option (List ℕ) → Option (List ℕ) → Result RunEnd RunFault → Type 0
EndsUnsolved reached a b (Ok Unknown) = reached × Appends a b unknown_text
EndsUnsolved reached a b (Err NoMemory) = Keeps a b
EndsUnsolved reached a b (Err AnswerWriteFailed) = reached × BeginsUnknown a b
EndsUnsolved reached a b r = ⊥

-- the text is the answer with the model that the strategy answers
abbrev pub HasAnswer : Formula → Strategy → List ℕ → Type 0
HasAnswer F s text = (M : Assignment) × IsModelOf F s M × (text ≡ answer_text (Some M))

-- what stands below the status line, by how the run ends: where the limit is reached, or isn't
abbrev pub IsBelowStatus : Formula → Bool → RunEnd → List ℕ → Type 0
IsBelowStatus F reached (Decided verdict) text = (verdict ≡ Found) × (M : Assignment) × IsFirst F M × (text ≡ values_text M)
IsBelowStatus F reached NotFirst text = (reached ≡ true) × IsAnswerAtLimit F (status_text ++ text)
IsBelowStatus F reached Unknown text = ⊥

-- what is written of the answer to a formula whose model is known
abbrev pub ModelIsWritten : Formula → Strategy → Type 0 → Option (List ℕ) → Option (List ℕ) → Result RunEnd RunFault → Type 0
ModelIsWritten F s reached a b (Ok (Decided verdict)) = (verdict ≡ Found) × (M : Assignment) × IsModelOf F s M × Appends a b (answer_text (Some M))
ModelIsWritten F s reached a b (Ok NotFirst) = reached × (s.lowers ≡ true) × WritesAtLimit a b F
ModelIsWritten F s reached a b (Err NoMemory) = Keeps a b ⊎ ((s.lowers ≡ true) × WritesStatus a b F)
ModelIsWritten F s reached a b (Err AnswerWriteFailed) = ((M : Assignment) × IsModelOf F s M × (count : ℕ) × Appends a b (take count (answer_text (Some M)))) ⊎ (reached × (s.lowers ≡ true) × BeginsAtLimit a b F)
ModelIsWritten F s reached a b r = ⊥

-- what is written of a proof and an answer whose texts are those of the formula and the strategy
abbrev pub TextsAreWritten : Limits → Formula → Strategy → Option (List ℕ) → Option (List ℕ) → Option (List ℕ) → Option (List ℕ) → Result RunEnd RunFault → Type 0
TextsAreWritten L F s p q a b (Ok (Decided verdict)) = (proof answer : List ℕ) × AreTexts L F s verdict proof answer × Appends p q proof × Appends a b answer
TextsAreWritten L F s p q a b (Err NoMemory) = Keeps p q × Keeps a b
TextsAreWritten L F s p q a b (Err ProofWriteFailed) = (verdict : Verdict) × (proof answer : List ℕ) × AreTexts L F s verdict proof answer × Keeps a b × (count : ℕ) × Appends p q (take count proof)
TextsAreWritten L F s p q a b (Err AnswerWriteFailed) = (verdict : Verdict) × (proof answer : List ℕ) × AreTexts L F s verdict proof answer × Appends p q proof × (count : ℕ) × Appends a b (take count answer)
TextsAreWritten L F s p q a b r = ⊥

-- either, of a formula that is decided; a model's proof is empty
abbrev pub DecidedIsWritten : Limits → Formula → Strategy → Type 0 → Option (List ℕ) → Option (List ℕ) → Option (List ℕ) → Option (List ℕ) → Result RunEnd RunFault → Type 0
DecidedIsWritten L F s reached p q a b r = TextsAreWritten L F s p q a b r ⊎ (Appends p q [] × ModelIsWritten F s reached a b r)

-- what is written of an answer alone, of a formula that is decided
abbrev pub RefutedIsWritten : Limits → Formula → Strategy → Option (List ℕ) → Option (List ℕ) → Result RunEnd RunFault → Type 0
RefutedIsWritten L F s a b (Ok (Decided verdict)) = (answer : List ℕ) × IsAnswerFor L F s verdict answer × Appends a b answer
RefutedIsWritten L F s a b (Err NoMemory) = Keeps a b
RefutedIsWritten L F s a b (Err AnswerWriteFailed) = (verdict : Verdict) × (answer : List ℕ) × IsAnswerFor L F s verdict answer × (count : ℕ) × Appends a b (take count answer)
RefutedIsWritten L F s a b r = ⊥

abbrev pub AnswerIsWritten : Limits → Formula → Strategy → Type 0 → Option (List ℕ) → Option (List ℕ) → Result RunEnd RunFault → Type 0
AnswerIsWritten L F s reached a b r = RefutedIsWritten L F s a b r ⊎ ModelIsWritten F s reached a b r
