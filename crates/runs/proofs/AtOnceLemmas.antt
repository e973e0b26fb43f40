-- What a run over stored facts says that goes through the tree once.
use Rattle.std.proofs.Common.{◌≡◌, ℕ, List, ◌++◌, Option, None, Result, Ok, Err, IfErr, ◌⊎◌, inl, inr, refl, subst}
use Rattle.theory.specs.Truth.{Formula, Satisfiable}
use Rattle.theory.specs.Plans.{Search, Plan}
use Rattle.theory.specs.Reading.{Limits, large, IsWithinLimits}
use Rattle.theory.specs.Steps.{Step}
use Rattle.theory.specs.Texts.{proof_text, answer_text}
use Rattle.cnf.specs.declared.fault.ReadFault.{ReadFault}
use Rattle.cnf.specs.declared.fault.ReadFault.TheVariants as reading
use Rattle.cnf.specs.Faults.{IsReadOf}
use Rattle.strategies.specs.declared.begun_formula.Begun.{Begun}
use Rattle.strategies.specs.Begun.{formula_in, lines_in, IsBegunBy}
use Rattle.strategies.proofs.SatisfiedFormulas.{refuted-back}
use Rattle.strategies.specs.Strategies.{by_plan}
use Rattle.strategies.specs.Choosing.{alone}
use Rattle.runs.specs.Answer.{IsRight}
use Rattle.runs.specs.Run.{AreTexts}
use Rattle.runs.specs.AtOnce.{HasNoProof, LeavesAtOnce}
use Rattle.runs.specs.Stored.{IsProofText, LeavesStored}
use Rattle.runs.specs.declared.verdict.Verdict.TheVariants.{Unsatisfiable}
use Rattle.runs.specs.declared.fault.RunFault.{RunFault}
use Rattle.runs.specs.declared.fault.RunFault.TheVariants.{Read, NoMemory, ProofWriteFailed, AnswerWriteFailed, ProofReadFailed}
use Rattle.runs.proofs.StoredLemmas.{refuted-right, refuted-texts}
use Rattle.runs.proofs.WrittenLemmas.{Keeps-same}

-- the formula that was read has a model
pub HasNoProof-made : (L : Limits) (known a : Option (List ℕ)) (F : Formula) → ◌≡◌ {A = Result Formula ReadFault} (Ok F) (Err reading.ReadFailed) ⊎ IsReadOf L known (Ok F) → Satisfiable F → HasNoProof L known a a
HasNoProof-made L known a F (inl e) has = absurd (cc)
HasNoProof-made L known a F (inr r) has = record { bytes = r.bytes; are = r.are; value = F; reads = r.is_read; satisfiable = has; answer_kept = Keeps-same a }

-- what `gather_stored` leaves is enough
pub Stored-AtOnce : (L : Limits) (search : Search) (known p q a b : Option (List ℕ)) (fault : RunFault) → LeavesStored L search known p q a b fault → LeavesAtOnce L search known p q a b fault
Stored-AtOnce L search known p q a b (Read fault) leaves = leaves
Stored-AtOnce L search known p q a b NoMemory leaves = leaves.1
Stored-AtOnce L search known p q a b ProofWriteFailed leaves = leaves
Stored-AtOnce L search known p q a b AnswerWriteFailed leaves = leaves
Stored-AtOnce L search known p q a b ProofReadFailed leaves = leaves

-- and so it is of a result
pub IfErr-AtOnce : {X : Type 0} (L : Limits) (search : Search) (known p q a b : Option (List ℕ)) (r : Result X RunFault) → IfErr r (LeavesStored L search known p q a b) → IfErr r (LeavesAtOnce L search known p q a b)
IfErr-AtOnce L search known p q a b (Ok x) leaves = leaves
IfErr-AtOnce L search known p q a b (Err e) leaves = Stored-AtOnce L search known p q a b e leaves

-- of what is searched, with the lines before, for the formula
pub at-once-right : (L : Limits) (F G : Formula) (plan : Plan) (x : Begun) (are_true : Type 0) (before : List Step) (rest answer : List ℕ) → IsWithinLimits large F → IsBegunBy F plan x → G ≡ formula_in x F → before ≡ lines_in x F → ¬ (Satisfiable G) → answer ≡ answer_text None
    → IsProofText G plan are_true rest → IsRight L plan.search F Unsatisfiable (proof_text before ++ rest) answer
at-once-right L F G plan x are_true before rest answer within h same e never is of =
    refuted-right L F plan x plan.search are_true before rest answer within h e (refuted-back F plan x within.formula h (subst (λ (K : Formula). ¬ (Satisfiable K)) same never)) is (subst (λ (K : Formula). IsProofText K plan are_true rest) same of)

pub at-once-texts : (L : Limits) (F G : Formula) (plan : Plan) (x : Begun) (are_true : Type 0) (before : List Step) (rest answer : List ℕ) → IsWithinLimits large F → IsBegunBy F plan x → G ≡ formula_in x F → before ≡ lines_in x F → are_true → ¬ (Satisfiable G) → answer ≡ answer_text None
    → IsProofText G plan are_true rest → AreTexts L F (by_plan plan) Unsatisfiable (proof_text before ++ rest) answer
at-once-texts L F G plan x are_true before rest answer within h same e are never is of =
    refuted-texts L F plan x (by_plan plan) are_true before rest answer within h e (alone refl) are (refuted-back F plan x within.formula h (subst (λ (K : Formula). ¬ (Satisfiable K)) same never)) is (subst (λ (K : Formula). IsProofText K plan are_true rest) same of)
