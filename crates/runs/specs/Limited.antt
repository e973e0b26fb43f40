-- What a run with a limit has read and written.
use Rattle.std.specs.Prelude.{◌≡◌, ℕ, true, List, Option, Some, None, take, Result, Ok, Err, ◌⊎◌}
use Rattle.std.specs.Io.KnownBytes.{Appends, Keeps}
use Rattle.theory.specs.Reading.{Limits}
use Rattle.theory.specs.Truth.{Formula, Satisfiable}
use Rattle.join.specs.Values.{status_text}
use Rattle.strategies.specs.Strategies.{Strategy}
use Rattle.runs.specs.Answer.{unknown_text}
use Rattle.runs.specs.AtLimit.{IsAnswerAtLimit, OfRead, WritesAtLimit}
use Rattle.runs.specs.Run.{RunSays}
use Rattle.runs.specs.Answered.{AnswerSays}
use Rattle.runs.specs.declared.fault.RunFault.{RunFault}
use Rattle.runs.specs.declared.fault.RunFault.TheVariants.{NoMemory, AnswerWriteFailed}
use Rattle.runs.specs.declared.verdict.RunEnd.{RunEnd}
use Rattle.runs.specs.declared.verdict.RunEnd.TheVariants.{Decided, NotFirst, Unknown}

-- a beginning of the answer without a verdict is written
abbrev pub BeginsUnknown : Option (List ℕ) → Option (List ℕ) → Type 0
BeginsUnknown a b = (count : ℕ) × Appends a b (take count unknown_text)

-- a beginning of an answer at the limit is written
abbrev pub BeginsAtLimit : Option (List ℕ) → Option (List ℕ) → Formula → Type 0
BeginsAtLimit a b F = (answer : List ℕ) × IsAnswerAtLimit F answer × (count : ℕ) × Appends a b (take count answer)

-- the status line stands without value lines
abbrev pub WritesStatus : Option (List ℕ) → Option (List ℕ) → Formula → Type 0
WritesStatus a b F = Satisfiable F × Appends a b status_text

-- what a run with a limit answers: what a run does, or, where the limit is reached, that the answer
-- is unknown, or a model that need not be the first; and where memory is refused while a model is
-- lowered, the status line may stand without value lines
abbrev pub LimitedRunSays : Limits → Type 0 → Option (List ℕ) → Strategy → Option (List ℕ) → Option (List ℕ) → Option (List ℕ) → Option (List ℕ) → Result RunEnd RunFault → Type 0
LimitedRunSays L reached known strategy p q a b (Ok (Decided verdict)) = RunSays L known strategy p q a b (Ok verdict)
LimitedRunSays L reached known strategy p q a b (Ok NotFirst) = reached × Keeps p q × (strategy.lowers ≡ true) × OfRead L known (WritesAtLimit a b)
LimitedRunSays L reached known strategy p q a b (Ok Unknown) = reached × Keeps p q × Appends a b unknown_text
LimitedRunSays L reached known strategy p q a b (Err NoMemory) = RunSays L known strategy p q a b (Err NoMemory) ⊎ (Keeps p q × (strategy.lowers ≡ true) × OfRead L known (WritesStatus a b))
LimitedRunSays L reached known strategy p q a b (Err AnswerWriteFailed) = RunSays L known strategy p q a b (Err AnswerWriteFailed) ⊎ (reached × Keeps p q × (BeginsUnknown a b ⊎ ((strategy.lowers ≡ true) × OfRead L known (BeginsAtLimit a b))))
LimitedRunSays L reached known strategy p q a b (Err fault) = RunSays L known strategy p q a b (Err fault)

-- the same of a run without a proof
abbrev pub LimitedAnswerSays : Limits → Type 0 → Option (List ℕ) → Strategy → Option (List ℕ) → Option (List ℕ) → Result RunEnd RunFault → Type 0
LimitedAnswerSays L reached known strategy a b (Ok (Decided verdict)) = AnswerSays L known strategy a b (Ok verdict)
LimitedAnswerSays L reached known strategy a b (Ok NotFirst) = reached × (strategy.lowers ≡ true) × OfRead L known (WritesAtLimit a b)
LimitedAnswerSays L reached known strategy a b (Ok Unknown) = reached × Appends a b unknown_text
LimitedAnswerSays L reached known strategy a b (Err NoMemory) = AnswerSays L known strategy a b (Err NoMemory) ⊎ ((strategy.lowers ≡ true) × OfRead L known (WritesStatus a b))
LimitedAnswerSays L reached known strategy a b (Err AnswerWriteFailed) = AnswerSays L known strategy a b (Err AnswerWriteFailed) ⊎ (reached × (BeginsUnknown a b ⊎ ((strategy.lowers ≡ true) × OfRead L known (BeginsAtLimit a b))))
LimitedAnswerSays L reached known strategy a b (Err fault) = AnswerSays L known strategy a b (Err fault)

-- the same where there may be a writer for the proof, which is given away: what it held before, and
-- what it holds in the end
abbrev pub LimitedSays : Limits → Type 0 → Option (List ℕ) → Strategy → Option (Option (List ℕ)) → Option (List ℕ) → Option (List ℕ) → Result RunEnd RunFault → Type 0
LimitedSays L reached known strategy None a b r = LimitedAnswerSays L reached known strategy a b r
LimitedSays L reached known strategy (Some p) a b r = (q : Option (List ℕ)) × LimitedRunSays L reached known strategy p q a b r
