-- What a run that ended well has written is a right answer.
use Rattle.std.proofs.Common.{◌≡◌, ℕ, List, Option, Result, Ok, Err, IfOk, inl, inr, ◌⊎◌}
use Rattle.std.specs.Io.KnownBytes.{Appends}
use Rattle.theory.specs.Reading.{Limits}
use Rattle.theory.specs.Truth.{Formula}
use Rattle.theory.specs.Plans.{Search}
use Rattle.strategies.specs.Strategies.{Strategy, search_by}
use Rattle.cnf.specs.declared.fault.ReadFault.{ReadFault}
use Rattle.cnf.specs.declared.fault.ReadFault.TheVariants as reading
use Rattle.cnf.specs.Faults.{IsReadOf}
use Rattle.runs.specs.Answer.{IsRight, IsRightAnswer}
use Rattle.runs.specs.Run.{AreTexts, WritesBoth, RunSays}
use Rattle.runs.specs.declared.fault.RunFault.{RunFault}
use Rattle.runs.specs.declared.verdict.Verdict.{Verdict}
use Rattle.runs.specs.declared.verdict.Verdict.TheVariants.{Satisfiable, Unsatisfiable}

pub texts-right : (L : Limits) (F : Formula) (strategy : Strategy) (verdict : Verdict) (proof answer : List ℕ) → AreTexts L F strategy verdict proof answer → IsRight L (search_by strategy) F verdict proof answer
texts-right L F strategy Satisfiable proof answer t = (t.model, t.found, t.answer_is)
texts-right L F strategy Unsatisfiable proof answer t = (t.0.text.unsatisfiable, t.1, t.0.text.answer_is)

written-right : (L : Limits) (known : Option (List ℕ)) (strategy : Strategy) (p q a b : Option (List ℕ)) (verdict : Verdict) → WritesBoth L known strategy p q a b verdict → IsRightAnswer L (search_by strategy) known p q a b verdict
written-right L known strategy p q a b verdict w = record {
  bytes = w.run.bytes;
  are = w.run.are;
  value = w.run.value;
  reads = w.run.reads;
  proof = w.proof;
  answer = w.answer;
  right = texts-right L w.run.value strategy verdict w.proof w.answer w.run.texts;
  proof_written = w.proof_written;
  answer_written = w.answer_written;
}

pub says-right : (L : Limits) (known : Option (List ℕ)) (strategy : Strategy) (p q a b : Option (List ℕ)) (r : Result Verdict RunFault) → RunSays L known strategy p q a b r → IfOk r (IsRightAnswer L (search_by strategy) known p q a b)
says-right L known strategy p q a b (Ok verdict) says = written-right L known strategy p q a b verdict says
says-right L known strategy p q a b (Err fault) says = tt

-- right texts for a formula that was read, which are written whole
pub IsRightAnswer-made : (L : Limits) (search : Search) (known p q a b : Option (List ℕ)) (F : Formula) (verdict : Verdict) (proof answer : List ℕ)
    → ◌≡◌ {A = Result Formula ReadFault} (Ok F) (Err reading.ReadFailed) ⊎ IsReadOf L known (Ok F) → IsRight L search F verdict proof answer → Appends p q proof → Appends a b answer → IsRightAnswer L search known p q a b verdict
IsRightAnswer-made L search known p q a b F verdict proof answer (inl e) right pw aw = absurd (cc)
IsRightAnswer-made L search known p q a b F verdict proof answer (inr r) right pw aw = record {
  bytes = r.bytes;
  are = r.are;
  value = F;
  reads = r.is_read;
  proof = proof;
  answer = answer;
  right = right;
  proof_written = pw;
  answer_written = aw;
}
