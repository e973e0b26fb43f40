-- What a run with a limit says, by what was written.
use Rattle.std.proofs.Common.{◌≡◌, ℕ, false, List, [], ◌++◌, Option, Some, None, Result, Ok, Err, IfOk, take, refl, sym, subst, append-nil, inl, inr, ◌⊎◌}
use Rattle.std.specs.Io.KnownBytes.{Appends, Keeps}
use Rattle.theory.specs.Plans.{Search}
use Rattle.theory.specs.Reading.{Limits}
use Rattle.theory.specs.Texts.{answer_text}
use Rattle.theory.specs.Truth.{Formula, Assignment}
use Rattle.cnf.specs.declared.fault.ReadFault.{ReadFault}
use Rattle.cnf.specs.declared.fault.ReadFault.TheVariants as reading
use Rattle.cnf.specs.Faults.{IsReadOf}
use Rattle.strategies.specs.Deciding.{IsModelOf}
use Rattle.strategies.specs.Strategies.{Strategy, search_by}
use Rattle.runs.specs.Answered.{AnswerSays, IsAnswerFor}
use Rattle.runs.specs.Answer.{IsRightEnd}
use Rattle.runs.specs.AtLimit.{OfRead}
use Rattle.runs.specs.Ending.{EndsUnsolved, ModelIsWritten, TextsAreWritten, DecidedIsWritten, RefutedIsWritten, AnswerIsWritten}
use Rattle.runs.specs.Limited.{LimitedRunSays, LimitedAnswerSays}
use Rattle.runs.specs.Run.{AreTexts, IsRunOf, WritesBoth, StopsInProof, StopsInAnswer, RunSays}
use Rattle.runs.specs.declared.fault.RunFault.{RunFault}
use Rattle.runs.specs.declared.fault.RunFault.TheVariants.{Read, NoMemory, ProofWriteFailed, AnswerWriteFailed, ProofReadFailed}
use Rattle.runs.specs.declared.verdict.RunEnd.{RunEnd}
use Rattle.runs.specs.declared.verdict.RunEnd.TheVariants.{Decided, NotFirst, Unknown}
use Rattle.runs.specs.declared.verdict.Verdict.{Verdict}
use Rattle.runs.specs.declared.verdict.Verdict.TheVariants.{Satisfiable as Found, Unsatisfiable}
use Rattle.runs.proofs.AnsweredLemmas.{IsAnswerOf-made}
use Rattle.runs.proofs.RightAnswers.{says-right}
use Rattle.runs.proofs.RunLemmas.{IsRunOf-made}
use Rattle.runs.proofs.WrittenLemmas.{Keeps-same}

-- the model that is the answer has these texts
pub model-texts : (L : Limits) (F : Formula) (s : Strategy) (M : Assignment) → IsModelOf F s M → AreTexts L F s Found [] (answer_text (Some M))
model-texts L F s M h = record { model = M; found = h.1; is_answer = h.0; proof_is = refl; answer_is = refl }

-- what appends nothing keeps what is there
pub Appends-nothing : (a b : Option (List ℕ)) → Appends a b [] → Keeps a b
Appends-nothing None b h = tt
Appends-nothing (Some xs) None h = absurd h
Appends-nothing (Some xs) (Some ys) h = subst (λ (zs : List ℕ). ys ≡ zs) (append-nil xs) h

-- a formula that was read
abbrev IsRead : Limits → Option (List ℕ) → Formula → Type 0
IsRead L known F = ◌≡◌ {A = Result Formula ReadFault} (Ok F) (Err reading.ReadFailed) ⊎ IsReadOf L known (Ok F)

of-read : (L : Limits) (known : Option (List ℕ)) (F : Formula) (says : Formula → Type 0) → IsRead L known F → says F → OfRead L known says
of-read L known F says (inl e) so = absurd (cc)
of-read L known F says (inr r) so = record { bytes = r.bytes; are = r.are; value = F; reads = r.is_read; so = so }

module _ (L : Limits) (reached : Type 0) (known : Option (List ℕ)) (s : Strategy) (F : Formula) (read : IsRead L known F) where
  run : (verdict : Verdict) (proof answer : List ℕ) → AreTexts L F s verdict proof answer → IsRunOf L known s verdict proof answer
  run verdict proof answer texts = IsRunOf-made L known s F verdict proof answer read texts

  texts-limited : (p q a b : Option (List ℕ)) (r : Result RunEnd RunFault) → TextsAreWritten L F s p q a b r → LimitedRunSays L reached known s p q a b r
  texts-limited p q a b (Ok (Decided verdict)) h = record { proof = h.0; answer = h.1; run = run verdict h.0 h.1 h.2; proof_written = h.3; answer_written = h.4 }
  texts-limited p q a b (Ok NotFirst) h = absurd h
  texts-limited p q a b (Ok Unknown) h = absurd h
  texts-limited p q a b (Err (Read fault)) h = absurd h
  texts-limited p q a b (Err NoMemory) h = inl h
  texts-limited p q a b (Err ProofWriteFailed) h =
      let stops : StopsInProof L known s p q a b = record { verdict = h.0; proof = h.1; answer = h.2; run = run h.0 h.1 h.2 h.3; count = h.5; proof_written = h.6; answer_kept = h.4 } in
      stops
  texts-limited p q a b (Err AnswerWriteFailed) h =
      let stops : StopsInAnswer L known s p q a b = record { verdict = h.0; proof = h.1; answer = h.2; run = run h.0 h.1 h.2 h.3; count = h.5; proof_written = h.4; answer_written = h.6 } in
      inl stops
  texts-limited p q a b (Err ProofReadFailed) h = absurd h

  model-limited : (p q a b : Option (List ℕ)) (r : Result RunEnd RunFault) → Appends p q [] → ModelIsWritten F s reached a b r → LimitedRunSays L reached known s p q a b r
  model-limited p q a b (Ok (Decided verdict)) none h =
      let M = h.1 in
      rw h.0 (let both : WritesBoth L known s p q a b Found = record { proof = []; answer = answer_text (Some M); run = run Found [] (answer_text (Some M)) (model-texts L F s M h.2); proof_written = none; answer_written = h.3 } in both)
  model-limited p q a b (Ok NotFirst) none h = (h.0, Appends-nothing p q none, h.1, of-read L known F _ read h.2)
  model-limited p q a b (Ok Unknown) none h = absurd h
  model-limited p q a b (Err (Read fault)) none h = absurd h
  model-limited p q a b (Err NoMemory) none (inl h) = inl (Appends-nothing p q none, h)
  model-limited p q a b (Err NoMemory) none (inr h) = inr (Appends-nothing p q none, h.0, of-read L known F _ read h.1)
  model-limited p q a b (Err ProofWriteFailed) none h = absurd h
  model-limited p q a b (Err AnswerWriteFailed) none (inl h) =
      let M = h.0 in
      let stops : StopsInAnswer L known s p q a b = record { verdict = Found; proof = []; answer = answer_text (Some M); run = run Found [] (answer_text (Some M)) (model-texts L F s M h.1); count = h.2; proof_written = none; answer_written = h.3 } in
      inl stops
  model-limited p q a b (Err AnswerWriteFailed) none (inr h) = inr (h.0, Appends-nothing p q none, inr (h.1, of-read L known F _ read h.2))
  model-limited p q a b (Err ProofReadFailed) none h = absurd h

  -- a formula that is decided, with its proof
  pub decided-limited : (p q a b : Option (List ℕ)) (r : Result RunEnd RunFault) → DecidedIsWritten L F s reached p q a b r → LimitedRunSays L reached known s p q a b r
  decided-limited p q a b r (inl h) = texts-limited p q a b r h
  decided-limited p q a b r (inr h) = model-limited p q a b r h.0 h.1

  refuted-limited : (a b : Option (List ℕ)) (r : Result RunEnd RunFault) → RefutedIsWritten L F s a b r → LimitedAnswerSays L reached known s a b r
  refuted-limited a b (Ok (Decided verdict)) h = record { answer = h.0; is_answer = IsAnswerOf-made L known s F verdict h.0 read h.1; written = h.2 }
  refuted-limited a b (Ok NotFirst) h = absurd h
  refuted-limited a b (Ok Unknown) h = absurd h
  refuted-limited a b (Err (Read fault)) h = absurd h
  refuted-limited a b (Err NoMemory) h = inl h
  refuted-limited a b (Err ProofWriteFailed) h = absurd h
  refuted-limited a b (Err AnswerWriteFailed) h = inl (record { verdict = h.0; answer = h.1; is_answer = IsAnswerOf-made L known s F h.0 h.1 read h.2; count = h.3; written = h.4 })
  refuted-limited a b (Err ProofReadFailed) h = absurd h

  found-answer : (M : Assignment) → IsModelOf F s M → IsAnswerFor L F s Found (answer_text (Some M))
  found-answer M h = ([], model-texts L F s M h)

  found-limited : (a b : Option (List ℕ)) (r : Result RunEnd RunFault) → ModelIsWritten F s reached a b r → LimitedAnswerSays L reached known s a b r
  found-limited a b (Ok (Decided verdict)) h =
      let M = h.1 in
      let text = answer_text (Some M) in
      rw h.0 (record { answer = text; is_answer = IsAnswerOf-made L known s F Found text read (found-answer M h.2); written = h.3 })
  found-limited a b (Ok NotFirst) h = (h.0, h.1, of-read L known F _ read h.2)
  found-limited a b (Ok Unknown) h = absurd h
  found-limited a b (Err (Read fault)) h = absurd h
  found-limited a b (Err NoMemory) (inl h) = inl h
  found-limited a b (Err NoMemory) (inr h) = inr (h.0, of-read L known F _ read h.1)
  found-limited a b (Err ProofWriteFailed) h = absurd h
  found-limited a b (Err AnswerWriteFailed) (inl h) =
      let M = h.0 in
      let text = answer_text (Some M) in
      inl (record { verdict = Found; answer = text; is_answer = IsAnswerOf-made L known s F Found text read (found-answer M h.1); count = h.2; written = h.3 })
  found-limited a b (Err AnswerWriteFailed) (inr h) = inr (h.0, inr (h.1, of-read L known F _ read h.2))
  found-limited a b (Err ProofReadFailed) h = absurd h

  -- and without one
  pub answer-limited : (a b : Option (List ℕ)) (r : Result RunEnd RunFault) → AnswerIsWritten L F s reached a b r → LimitedAnswerSays L reached known s a b r
  answer-limited a b r (inl h) = refuted-limited a b r h
  answer-limited a b r (inr h) = found-limited a b r h

-- a formula that wasn't decided
pub unsolved-limited : (L : Limits) (reached : Type 0) (known p a b : Option (List ℕ)) (s : Strategy) (r : Result RunEnd RunFault) → EndsUnsolved reached a b r → LimitedRunSays L reached known s p p a b r
unsolved-limited L reached known p a b s (Ok (Decided verdict)) h = absurd h
unsolved-limited L reached known p a b s (Ok NotFirst) h = absurd h
unsolved-limited L reached known p a b s (Ok Unknown) h = (h.0, Keeps-same p, h.1)
unsolved-limited L reached known p a b s (Err (Read fault)) h = absurd h
unsolved-limited L reached known p a b s (Err NoMemory) h = inl (Keeps-same p, h)
unsolved-limited L reached known p a b s (Err ProofWriteFailed) h = absurd h
unsolved-limited L reached known p a b s (Err AnswerWriteFailed) h = inr (h.0, Keeps-same p, inl h.1)
unsolved-limited L reached known p a b s (Err ProofReadFailed) h = absurd h

pub unsolved-answer : (L : Limits) (reached : Type 0) (known a b : Option (List ℕ)) (s : Strategy) (r : Result RunEnd RunFault) → EndsUnsolved reached a b r → LimitedAnswerSays L reached known s a b r
unsolved-answer L reached known a b s (Ok (Decided verdict)) h = absurd h
unsolved-answer L reached known a b s (Ok NotFirst) h = absurd h
unsolved-answer L reached known a b s (Ok Unknown) h = h
unsolved-answer L reached known a b s (Err (Read fault)) h = absurd h
unsolved-answer L reached known a b s (Err NoMemory) h = inl h
unsolved-answer L reached known a b s (Err ProofWriteFailed) h = absurd h
unsolved-answer L reached known a b s (Err AnswerWriteFailed) h = inr (h.0, inl h.1)
unsolved-answer L reached known a b s (Err ProofReadFailed) h = absurd h

-- what a run says that has no limit and lowers nothing
pub unlimited-says : (L : Limits) (reached : Type 0) (known : Option (List ℕ)) (s : Strategy) (p q a b : Option (List ℕ)) (e : RunFault) → ¬ reached → s.lowers ≡ false → LimitedRunSays L reached known s p q a b (Err e) → RunSays L known s p q a b (Err e)
unlimited-says L reached known s p q a b (Read fault) never low h = h
unlimited-says L reached known s p q a b NoMemory never low (inl h) = h
unlimited-says L reached known s p q a b NoMemory never low (inr h) = absurd (let lowers = h.1 in cc)
unlimited-says L reached known s p q a b ProofWriteFailed never low h = h
unlimited-says L reached known s p q a b AnswerWriteFailed never low (inl h) = h
unlimited-says L reached known s p q a b AnswerWriteFailed never low (inr h) = absurd (never h.0)
unlimited-says L reached known s p q a b ProofReadFailed never low h = h

-- a verdict is right
pub limited-right : (L : Limits) (reached : Type 0) (known : Option (List ℕ)) (s : Strategy) (p q a b : Option (List ℕ)) (r : Result RunEnd RunFault) → LimitedRunSays L reached known s p q a b r → IfOk r (IsRightEnd L (search_by s) known p q a b)
limited-right L reached known s p q a b (Ok (Decided verdict)) says = says-right L known s p q a b (Ok verdict) says
limited-right L reached known s p q a b (Ok NotFirst) says = tt
limited-right L reached known s p q a b (Ok Unknown) says = tt
limited-right L reached known s p q a b (Err fault) says = tt

-- what a run says that met a fault
pub said-limited : (L : Limits) (reached : Type 0) (known : Option (List ℕ)) (s : Strategy) (p q a b : Option (List ℕ)) (e : RunFault) → RunSays L known s p q a b (Err e) → LimitedRunSays L reached known s p q a b (Err e)
said-limited L reached known s p q a b (Read fault) h = h
said-limited L reached known s p q a b NoMemory h = inl h
said-limited L reached known s p q a b ProofWriteFailed h = h
said-limited L reached known s p q a b AnswerWriteFailed h = inl h
said-limited L reached known s p q a b ProofReadFailed h = h

pub said-answer : (L : Limits) (reached : Type 0) (known : Option (List ℕ)) (s : Strategy) (a b : Option (List ℕ)) (e : RunFault) → AnswerSays L known s a b (Err e) → LimitedAnswerSays L reached known s a b (Err e)
said-answer L reached known s a b (Read fault) h = h
said-answer L reached known s a b NoMemory h = inl h
said-answer L reached known s a b ProofWriteFailed h = h
said-answer L reached known s a b AnswerWriteFailed h = inl h
said-answer L reached known s a b ProofReadFailed h = h

-- the answer to a refuted formula is written, or a beginning
pub refuted-written : (L : Limits) (F : Formula) (s : Strategy) (reached : Type 0) (a b : Option (List ℕ)) (text : List ℕ) → IsAnswerFor L F s Unsatisfiable text → Appends a b text → AnswerIsWritten L F s reached a b (Ok (Decided Unsatisfiable))
refuted-written L F s reached a b text is written = inl (text, is, written)

pub refuted-stopped : (L : Limits) (F : Formula) (s : Strategy) (reached : Type 0) (a b : Option (List ℕ)) (text : List ℕ) (r : Result RunEnd RunFault) (e : RunFault) → IsAnswerFor L F s Unsatisfiable text → r ≡ Err e → (e ≡ AnswerWriteFailed) × (count : ℕ) × Appends a b (take count text)
    → AnswerIsWritten L F s reached a b r
refuted-stopped L F s reached a b text r e is f h = rw (f, h.0) (inl (Unsatisfiable, text, is, h.1, h.2))
