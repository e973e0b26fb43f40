-- What a run without a proof says: the answer is the one that goes with the formula's proof.
use Rattle.std.proofs.Common.{◌≡◌, ℕ, List, ◌++◌, Option, None, Result, Ok, Err, Vec, Global, take, inl, inr, ◌⊎◌, refl}
use Rattle.theory.specs.Truth.{Formula}
use Rattle.theory.specs.Plans.{Plan}
use Rattle.theory.specs.Learning.{Line}
use Rattle.theory.specs.Reading.{Limits, large, IsWithinLimits}
use Rattle.theory.specs.Beginnings.{beginning_by, proof}
use Rattle.theory.specs.Texts.{proof_text, answer_text}
use Rattle.cubes.specs.declared.tree.Node.{Node}
use Rattle.cubes.specs.declared.tree.Tree.TheVariants.{Refuted}
use Rattle.strategies.specs.declared.begun_formula.Begun.{Begun}
use Rattle.strategies.specs.Begun.{formula_in, lines_in}
use Rattle.strategies.specs.Strategies.{Strategy}
use Rattle.strategies.specs.Choosing.{IsChosen}
use Rattle.strategies.specs.Deciding.{IsFoundTree}
use Rattle.strategies.proofs.DecidedTrees.{refuted-says}
use Rattle.cnf.specs.declared.fault.ReadFault.{ReadFault}
use Rattle.cnf.specs.declared.fault.ReadFault.TheVariants as reading
use Rattle.cnf.specs.Faults.{IsReadOf}
use Rattle.std.specs.Io.KnownBytes.{Appends}
use Rattle.runs.specs.Answered.{IsAnswerFor, IsAnswerOf, BeginsAnswer, IsUnanswered, AnswerSays}
use Rattle.runs.specs.Faults.{fault_of_read}
use Rattle.runs.specs.declared.fault.RunFault.{RunFault}
use Rattle.runs.specs.declared.fault.RunFault.TheVariants.{AnswerWriteFailed}
use Rattle.runs.specs.declared.verdict.Verdict.{Verdict}
use Rattle.runs.specs.declared.verdict.Verdict.TheVariants.{Unsatisfiable}
use Rattle.runs.proofs.RightAnswers.{texts-right}
use Rattle.runs.proofs.RunLemmas.{IsRunOf-made}
use Rattle.runs.proofs.TextLemmas.{refuted-texts}
use Rattle.runs.proofs.WrittenLemmas.{Keeps-same}

-- the answer to a refuted formula: that of the run whose proof is its tree's
pub refuted-answer : {K : Type 0} (lines : K → List Line) (L : Limits) (F : Formula) (s : Strategy) (p : Plan) (x : Begun) (nodes : Vec (Node K) Global) (answer : List ℕ) → IsWithinLimits large F → IsChosen F s p → IsFoundTree lines F p x (Refuted nodes) → answer ≡ answer_text None
    → IsAnswerFor L F s Unsatisfiable answer
refuted-answer lines L F s p x nodes answer within chosen h same =
    let t = h.1.0 in
    let steps = proof (formula_in x F) (beginning_by p.search) t in
    (proof_text (lines_in x F ++ steps), refuted-texts L F s p x t steps answer within chosen h.0 (refuted-says lines F p x nodes within.formula h) h.1.1 same refl)

-- the answer to a formula that was read
pub IsAnswerOf-made : (L : Limits) (known : Option (List ℕ)) (s : Strategy) (F : Formula) (verdict : Verdict) (answer : List ℕ) → ◌≡◌ {A = Result Formula ReadFault} (Ok F) (Err reading.ReadFailed) ⊎ IsReadOf L known (Ok F) → IsAnswerFor L F s verdict answer
    → IsAnswerOf L known s verdict answer
IsAnswerOf-made L known s F verdict answer read texts =
    let run = IsRunOf-made L known s F verdict texts.0 answer read texts.1 in
    record { proof = texts.0; run = run; right = texts-right L run.value s verdict texts.0 answer run.texts }

-- a formula that wasn't read
unanswered : (L : Limits) (known a : Option (List ℕ)) (fault : ReadFault) → ◌≡◌ {A = Result Formula ReadFault} (Err fault) (Err reading.ReadFailed) ⊎ IsReadOf L known (Err fault) → (fault ≡ reading.NoMemory → ⊥) → IsUnanswered L known a a fault
unanswered L known a fault (inl e) other = record { refused = inl (cc); not_memory = other; kept = Keeps-same a }
unanswered L known a fault (inr r) other = record { refused = inr r; not_memory = other; kept = Keeps-same a }

pub AnswerSays-unread : (L : Limits) (known a : Option (List ℕ)) (s : Strategy) (fault : ReadFault) → ◌≡◌ {A = Result Formula ReadFault} (Err fault) (Err reading.ReadFailed) ⊎ IsReadOf L known (Err fault) → AnswerSays L known s a a (Err (fault_of_read fault))
AnswerSays-unread L known a s reading.NoMemory h = Keeps-same a
AnswerSays-unread L known a s reading.ReadFailed h = unanswered L known a reading.ReadFailed h (λ e. cc)
AnswerSays-unread L known a s (reading.NoHeader x) h = unanswered L known a (reading.NoHeader x) h (λ e. cc)
AnswerSays-unread L known a s (reading.BadHeader x) h = unanswered L known a (reading.BadHeader x) h (λ e. cc)
AnswerSays-unread L known a s (reading.SecondHeader x) h = unanswered L known a (reading.SecondHeader x) h (λ e. cc)
AnswerSays-unread L known a s (reading.BadNumber x) h = unanswered L known a (reading.BadNumber x) h (λ e. cc)
AnswerSays-unread L known a s (reading.VariableOutOfRange x) h = unanswered L known a (reading.VariableOutOfRange x) h (λ e. cc)
AnswerSays-unread L known a s (reading.TooManyClauses x) h = unanswered L known a (reading.TooManyClauses x) h (λ e. cc)
AnswerSays-unread L known a s (reading.TooFewClauses x) h = unanswered L known a (reading.TooFewClauses x) h (λ e. cc)
AnswerSays-unread L known a s (reading.ClauseNotEnded x) h = unanswered L known a (reading.ClauseNotEnded x) h (λ e. cc)
AnswerSays-unread L known a s (reading.OverLimit x) h = unanswered L known a (reading.OverLimit x) h (λ e. cc)

-- an answer that could not be written whole
pub AnswerSays-stopped : (L : Limits) (known : Option (List ℕ)) (s : Strategy) (a b : Option (List ℕ)) (r : Result Verdict RunFault) (e : RunFault) (verdict : Verdict) (answer : List ℕ) → r ≡ Err e → IsAnswerOf L known s verdict answer
    → (e ≡ AnswerWriteFailed) × (count : ℕ) × Appends a b (take count answer) → AnswerSays L known s a b r
AnswerSays-stopped L known s a b r e verdict answer f is h =
    rw (f, h.0) (let begins : BeginsAnswer L known s a b = record { verdict = verdict; answer = answer; is_answer = is; count = h.1; written = h.2 } in begins)
