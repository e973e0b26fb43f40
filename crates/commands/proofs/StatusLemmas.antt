-- What the status of a run, and the end of a check, say of the formula.
use Rattle.std.proofs.Common.{◌≡◌, ℕ, List, Option, Some, None, Result, Ok, Err, inl, inr, refl, ap, ◌∙◌, MutBor}
use Rattle.std.specs.Prelude.{option_map}
use Rattle.std.specs.Option.{option_copied_mut}
use Rattle.theory.specs.Reading.{Limits}
use Rattle.strategies.specs.Strategies.{Strategy, search_by}
use Rattle.theory.specs.Truth as truth
use Rattle.theory.specs.ProofReading.{ProofReading, ProofReadsWithin, steps, line_fault, too_long}
use Rattle.theory.specs.Checking.{checks, accepted, refused, no_empty_clause}
use Rattle.theory.specs.Checking as theory
use Rattle.theory.proofs.checker.Soundness.{accepted-unsatisfiable}
use Rattle.lrat.specs.declared.variables.Variables.{Variables}
use Rattle.lrat.specs.Extended.{checked_formula}
use Rattle.lrat_text.proofs.ProofTexts.{ProofReads-only}
use Rattle.runs.specs.declared.fault.RunFault.{RunFault}
use Rattle.runs.specs.declared.verdict.RunEnd.{RunEnd}
use Rattle.runs.specs.declared.verdict.RunEnd.TheVariants.{Decided, NotFirst, Unknown}
use Rattle.runs.specs.declared.verdict.Verdict.{Verdict}
use Rattle.runs.specs.declared.verdict.Verdict.TheVariants.{Satisfiable, Unsatisfiable}
use Rattle.runs.specs.declared.checked_line.Checked.{Checked}
use Rattle.runs.specs.declared.checked_line.Checked.TheVariants.{Accepted, Refused}
use Rattle.theory.specs.Plans.{Search}
use Rattle.runs.specs.Answer.{IsRight}
use Rattle.runs.specs.Run.{WritesBoth}
use Rattle.runs.specs.Answered.{WritesAnswer}
use Rattle.runs.specs.AtLimit.{OfRead, WritesAtLimit}
use Rattle.runs.specs.Limited.{LimitedSays}
use Rattle.runs.specs.Tidy.{TidySays}
use Rattle.runs.specs.Check.{checked_of, verdict_of, CheckSays, WritesLine}
use Rattle.runs.proofs.CheckRuns.{allowed-satisfiable}
use Rattle.runs.proofs.RightAnswers.{texts-right}
use Rattle.commands.specs.Status.{solve_status, Answers, IsSolveStatus, IsVerdict}
use Rattle.commands.specs.CheckStatus.{IsProofOf, AreRead, IsCheckEnd}
use Rattle.commands.specs.Ends.{end_of}

-- a right answer without its proof
pub right-verdict : (L : Limits) (how : Search) (F : truth.Formula) (verdict : Verdict) (proof answer : List ℕ) → IsRight L how F verdict proof answer → IsVerdict how F verdict answer
right-verdict L how F Satisfiable proof answer right = right
right-verdict L how F Unsatisfiable proof answer right = (right.0, right.2)

-- an answer with its proof, and one without
both-answers : (L : Limits) (known : Option (List ℕ)) (strategy : Strategy) (p q a b : Option (List ℕ)) (verdict : Verdict) → WritesBoth L known strategy p q a b verdict → Answers L (search_by strategy) known a b verdict
both-answers L known strategy p q a b verdict w = record {
  bytes = w.run.bytes;
  are = w.run.are;
  value = w.run.value;
  reads = w.run.reads;
  answer = w.answer;
  right = right-verdict L (search_by strategy) w.run.value verdict w.proof w.answer (texts-right L w.run.value strategy verdict w.proof w.answer w.run.texts);
  written = w.answer_written;
}

alone-answers : (L : Limits) (known : Option (List ℕ)) (strategy : Strategy) (a b : Option (List ℕ)) (verdict : Verdict) → WritesAnswer L known strategy a b verdict → Answers L (search_by strategy) known a b verdict
alone-answers L known strategy a b verdict w = record {
  bytes = w.is_answer.run.bytes;
  are = w.is_answer.run.are;
  value = w.is_answer.run.value;
  reads = w.is_answer.run.reads;
  answer = w.answer;
  right = right-verdict L (search_by strategy) w.is_answer.run.value verdict w.is_answer.proof w.answer w.is_answer.right;
  written = w.written;
}

verdict-answers : (L : Limits) (limited : Type 0) (known : Option (List ℕ)) (strategy : Strategy) (p : Option (Option (List ℕ))) (a b : Option (List ℕ)) (verdict : Verdict)
    → LimitedSays L limited known strategy p a b (Ok (Decided verdict)) → Answers L (search_by strategy) known a b verdict
verdict-answers L limited known strategy None a b verdict says = alone-answers L known strategy a b verdict says
verdict-answers L limited known strategy (Some p) a b verdict says = both-answers L known strategy p says.0 a b verdict says.1

limit-status : (L : Limits) (limited : Type 0) (known : Option (List ℕ)) (strategy : Strategy) (p : Option (Option (List ℕ))) (a b : Option (List ℕ))
    → LimitedSays L limited known strategy p a b (Ok NotFirst) → limited × OfRead L known (WritesAtLimit a b)
limit-status L limited known strategy None a b says = (says.0, says.2)
limit-status L limited known strategy (Some p) a b says = (says.1.0, says.1.3)

unknown-status : (L : Limits) (limited : Type 0) (known : Option (List ℕ)) (strategy : Strategy) (p : Option (Option (List ℕ))) (a b : Option (List ℕ))
    → LimitedSays L limited known strategy p a b (Ok Unknown) → IsSolveStatus L limited (search_by strategy) known a b 0
unknown-status L limited known strategy None a b says = inr (inr (inl (refl, says.0, says.1)))
unknown-status L limited known strategy (Some p) a b says = inr (inr (inl (refl, says.1.0, says.1.2)))

pub solve-status : (L : Limits) (limited : Type 0) (known : Option (List ℕ)) (strategy : Strategy) (p : Option (Option (List ℕ))) (a b : Option (List ℕ)) (r : Result RunEnd RunFault)
    → LimitedSays L limited known strategy p a b r → IsSolveStatus L limited (search_by strategy) known a b (solve_status r)
solve-status L limited known strategy p a b (Ok (Decided Satisfiable)) says = inl (refl, inl (verdict-answers L limited known strategy p a b Satisfiable says))
solve-status L limited known strategy p a b (Ok (Decided Unsatisfiable)) says = inr (inl (refl, verdict-answers L limited known strategy p a b Unsatisfiable says))
solve-status L limited known strategy p a b (Ok NotFirst) says = inl (refl, inr (limit-status L limited known strategy p a b says))
solve-status L limited known strategy p a b (Ok Unknown) says = unknown-status L limited known strategy p a b says
solve-status L limited known strategy p a b (Err fault) says = inr (inr (inr refl))

-- what a writer holds that is lent, if there is one
lent : {T : Type 0} (f : T → Option (List ℕ)) (o : Option (MutBor T)) → option_map (λ r. f r.now) o ≡ option_map f (option_copied_mut o)
lent f None = refl
lent f (Some r) = refl

pub held-lent : {T : Type 0} (f : T → Option (List ℕ)) (o : Option (MutBor T)) (x : Option T) (p : Option (Option (List ℕ))) → option_copied_mut o ≡ x → option_map f x ≡ p → option_map (λ r. f r.now) o ≡ p
held-lent f o x p same held = lent f o ∙ ap (option_map f) same ∙ held

-- what a run said that was passed a reader and writers with the bytes of others
pub passed-on : (L : Limits) (limited : Type 0) (strategy : Strategy) (known' known : Option (List ℕ)) (p' p : Option (Option (List ℕ))) (a b : Option (List ℕ)) (r : Result RunEnd RunFault)
    → known' ≡ known → p' ≡ p → LimitedSays L limited known' strategy p' a b r → LimitedSays L limited known strategy p a b r
passed-on L limited strategy known' known p' p a b r of_known of_p says = rw (← of_known, ← of_p) says

checks-accept : (c : theory.Checked) → Accepted ≡ checked_of c → c ≡ accepted
checks-accept accepted e = refl
checks-accept (refused fault n) e = absurd (cc)
checks-accept no_empty_clause e = absurd (cc)

is_proof : (L : Limits) (variables : Variables) (F : truth.Formula) (proof : List ℕ) (r : ProofReading) → ProofReadsWithin L proof r → Accepted ≡ verdict_of (checked_formula L variables F) r → IsProofOf L variables F proof
is_proof L variables F proof (steps ss) reads e = (ss, reads, checks-accept (checks (checked_formula L variables F) ss) e)
is_proof L variables F proof (line_fault fault n) reads e = absurd (cc)
is_proof L variables F proof too_long reads e = absurd (cc)

no_proof : (L : Limits) (variables : Variables) (F : truth.Formula) (proof : List ℕ) (r : ProofReading) → ProofReadsWithin L proof r → Refused ≡ verdict_of (checked_formula L variables F) r → ¬ (IsProofOf L variables F proof)
no_proof L variables F proof r reads e is =
    let same : r ≡ steps is.0 = ProofReads-only L proof r (steps is.0) reads is.1 in
    let both : Refused ≡ Accepted = e ∙ ap (verdict_of (checked_formula L variables F)) same ∙ ap checked_of is.2 in
    absurd (cc)

-- the two texts of a line that was written
read-so : (L : Limits) (variables : Variables) (known proofs a b : Option (List ℕ)) (checked : Checked) (So : truth.Formula → List ℕ → Type 0) (w : WritesLine L variables known proofs a b checked) → So w.check.value w.check.proof → AreRead L known proofs So
read-so L variables known proofs a b checked So w so = record { bytes = w.check.bytes; are = w.check.are; value = w.check.value; reads = w.check.reads; proof = w.check.proof; proof_is = w.check.proof_is; so = so }

pub check-end : (L : Limits) (variables : Variables) (known proofs a b : Option (List ℕ)) (r : Result Checked RunFault) → CheckSays L variables known proofs a b r → IsCheckEnd L variables known proofs (end_of r)
check-end L variables known proofs a b (Ok Accepted) w =
    let F = w.check.value in
    let is = is_proof L variables F w.check.proof w.check.says.read_as w.check.says.reads w.check.says.verdict in
    let none = accepted-unsatisfiable (checked_formula L variables F) is.0 is.2 in
    read-so L variables known proofs a b Accepted (λ G proof. IsProofOf L variables G proof × ¬ (truth.Satisfiable G)) w (is, λ s. none (allowed-satisfiable L variables F s))
check-end L variables known proofs a b (Ok Refused) w =
    read-so L variables known proofs a b Refused (λ F proof. ¬ (IsProofOf L variables F proof)) w (no_proof L variables w.check.value w.check.proof w.check.says.read_as w.check.says.reads w.check.says.verdict)
check-end L variables known proofs a b (Err fault) w = tt

pub checked-on : (L : Limits) (variables : Variables) (known' known proofs' proofs a b : Option (List ℕ)) (r : Result Checked RunFault)
    → known' ≡ known → proofs' ≡ proofs → CheckSays L variables known' proofs' a b r → CheckSays L variables known proofs a b r
checked-on L variables known' known proofs' proofs a b r of_known of_proofs says = rw (← of_known, ← of_proofs) says

-- what a run of `tidy` said that was passed a reader with the bytes of another
pub tidied-on : {X : Type 0} (L : Limits) (known' known a b : Option (List ℕ)) (r : Result X RunFault) → known' ≡ known → TidySays L known' a b r → TidySays L known a b r
tidied-on L known' known a b r of_known says = rw (← of_known) says
