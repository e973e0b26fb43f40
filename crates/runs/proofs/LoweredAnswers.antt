-- The answer to a formula whose model is lowered: the status line, and what stands below it.
use Rattle.std.proofs.Common.{◌≡◌, ℕ, zero, suc, ◌+◌, Bool, true, false, List, [], ◌∷◌, ◌++◌, length, take, Option, Some, Result, Ok, Err, refl, sym, ap, subst, ◌∙◌, arith, inl, inr, ◌⊎◌}
use Rattle.std.specs.Io.KnownBytes.{Appends}
use Rattle.theory.specs.FirstModel.{IsFirst}
use Rattle.theory.specs.Texts.{answer_text}
use Rattle.theory.specs.Plans.{Plan}
use Rattle.theory.specs.Reading.{Limits}
use Rattle.theory.specs.Truth.{Formula, Assignment, IsFormula, Satisfies}
use Rattle.join.specs.Values.{status_text, values_text}
use Rattle.strategies.specs.Strategies.{Strategy}
use Rattle.strategies.specs.Deciding.{IsFoundBy, IsModelOf}
use Rattle.strategies.proofs.FoundModels.{first-answer, found-satisfies, kept-answer}
use Rattle.strategies.proofs.StoppedLowerings.{first-there}
use Rattle.runs.specs.Ending.{HasAnswer, IsBelowStatus, ModelIsWritten, DecidedIsWritten}
use Rattle.runs.specs.declared.fault.RunFault.{RunFault}
use Rattle.runs.specs.declared.fault.RunFault.TheVariants.{NoMemory, ProofWriteFailed, AnswerWriteFailed}
use Rattle.runs.specs.declared.verdict.RunEnd.{RunEnd}
use Rattle.runs.specs.declared.verdict.RunEnd.TheVariants.{Decided, NotFirst, Unknown}
use Rattle.runs.specs.declared.verdict.Verdict.TheVariants.{Satisfiable}
use Rattle.runs.proofs.LimitedLemmas.{model-texts}
use Rattle.runs.proofs.WrittenLemmas.{Appends-then, Keeps-same}

-- a beginning of a text is one of each longer text
take-front : (n : ℕ) (xs ys : List ℕ) → (k : ℕ) × (take n xs ≡ take k (xs ++ ys))
take-front zero xs ys = (zero, refl)
take-front (suc n) [] ys = (zero, refl)
take-front (suc n) (x ∷ xs) ys = let more = take-front n xs ys in (suc more.0, ap (λ (t : List ℕ). x ∷ t) more.1)

take-behind : (xs ys : List ℕ) (n : ℕ) → xs ++ take n ys ≡ take (length xs + n) (xs ++ ys)
take-behind [] ys n = let same : n ≡ 0 + n = omega arith in ap (λ (k : ℕ). take k ys) same
take-behind (x ∷ xs) ys n =
    let same : suc (length xs + n) ≡ length (x ∷ xs) + n = omega arith in
    ap (λ (t : List ℕ). x ∷ t) (take-behind xs ys n) ∙ ap (λ (k : ℕ). take k (x ∷ xs ++ ys)) same

module _ (F : Formula) (s : Strategy) (reached : Type 0) (low : s.lowers ≡ true) where
  -- a beginning of the status line is written
  pub status-stopped : (M : Assignment) (a b : Option (List ℕ)) (r : Result RunEnd RunFault) (e : RunFault) → Satisfies F M → r ≡ Err e → (e ≡ AnswerWriteFailed) × (count : ℕ) × Appends a b (take count status_text) → ModelIsWritten F s reached a b r
  status-stopped M a b r e model f h =
      let first = first-there F M model in
      let front = take-front h.1 status_text (values_text first.0) in
      rw (f, h.0) (inl (first.0, first-answer F s first.0 low first.1, front.0, subst (Appends a b) front.1 h.2))

  -- the status line stands alone
  pub lowering-refused : (M : Assignment) (a b : Option (List ℕ)) → Satisfies F M → Appends a b status_text → ModelIsWritten F s reached a b (Err NoMemory)
  lowering-refused M a b model status = inr (low, ((M, model), status))

  -- all is written
  pub below-written : (is_reached : Bool) (a b d : Option (List ℕ)) (end : RunEnd) (text : List ℕ) → (is_reached ≡ true → reached) → IsBelowStatus F is_reached end text → Appends a b status_text → Appends b d text → ModelIsWritten F s reached a d (Ok end)
  below-written is_reached a b d (Decided verdict) text asked h status below =
      let M = h.1 in
      (h.0, M, first-answer F s M low h.2, subst (λ (t : List ℕ). Appends a d (status_text ++ t)) h.3 (Appends-then a b d status_text text status below))
  below-written is_reached a b d NotFirst text asked h status below = (asked h.0, low, (status_text ++ text, h.1, Appends-then a b d status_text text status below))
  below-written is_reached a b d Unknown text asked h status below = absurd h

  -- or a beginning
  pub below-stopped : (is_reached : Bool) (a b d : Option (List ℕ)) (end : RunEnd) (text : List ℕ) (r : Result RunEnd RunFault) (e : RunFault) → (is_reached ≡ true → reached) → IsBelowStatus F is_reached end text → Appends a b status_text
      → r ≡ Err e → (e ≡ AnswerWriteFailed) × (count : ℕ) × Appends b d (take count text) → ModelIsWritten F s reached a d r
  below-stopped is_reached a b d (Decided verdict) text r e asked h status f stopped =
      let M = h.1 in
      let count = stopped.1 in
      let whole : Appends a d (take (length status_text + count) (status_text ++ text)) = subst (Appends a d) (take-behind status_text text count) (Appends-then a b d status_text (take count text) status stopped.2) in
      rw (f, stopped.0) (inl (M, first-answer F s M low h.2, length status_text + count, subst (λ (t : List ℕ). Appends a d (take (length status_text + count) (status_text ++ t))) h.3 whole))
  below-stopped is_reached a b d NotFirst text r e asked h status f stopped =
      let count = stopped.1 in
      let whole : Appends a d (take (length status_text + count) (status_text ++ text)) = subst (Appends a d) (take-behind status_text text count) (Appends-then a b d status_text (take count text) status stopped.2) in
      rw (f, stopped.0) (inr (asked h.0, low, (status_text ++ text, h.1, length status_text + count, whole)))
  below-stopped is_reached a b d Unknown text r e asked h status f stopped = absurd h

-- some model is the answer, where the plan has found one
pub answer-there : (F : Formula) (s : Strategy) (p : Plan) (M : Assignment) → IsFormula F → IsFoundBy F s p M → (N : Assignment) × IsModelOf F s N
answer-there F s p M formed h = go s.lowers refl
  where
    go : (b : Bool) → s.lowers ≡ b → (N : Assignment) × IsModelOf F s N
    go true low = let first = first-there F M (found-satisfies F s p M formed h) in (first.0, first-answer F s first.0 low first.1)
    go false kept = (M, kept-answer F s p M formed (inl kept) h)

-- then the proof is empty, and its flush may fail
pub flush-failed : (L : Limits) (F : Formula) (s : Strategy) (reached : Type 0) (p : Plan) (M : Assignment) (a b d : Option (List ℕ)) (r : Result RunEnd RunFault) (e : RunFault) → IsFormula F → IsFoundBy F s p M → r ≡ Err e
    → (e ≡ ProofWriteFailed) × (count : ℕ) × Appends a b (take count []) → DecidedIsWritten L F s reached a b d d r
flush-failed L F s reached p M a b d r e formed found f h =
    let answer = answer-there F s p M formed found in
    rw (f, h.0) (inl (Satisfiable, [], answer_text (Some answer.0), model-texts L F s answer.0 answer.1, Keeps-same d, h.1, h.2))

-- a beginning of an answer that isn't lowered
pub answer-stopped : (F : Formula) (s : Strategy) (reached : Type 0) (a b : Option (List ℕ)) (text : List ℕ) (r : Result RunEnd RunFault) (e : RunFault) → HasAnswer F s text → r ≡ Err e → (e ≡ AnswerWriteFailed) × (count : ℕ) × Appends a b (take count text) → ModelIsWritten F s reached a b r
answer-stopped F s reached a b text r e answer f h = rw (f, h.0) (inl (answer.0, answer.1, h.1, subst (λ (t : List ℕ). Appends a b (take h.1 t)) answer.2 h.2))
