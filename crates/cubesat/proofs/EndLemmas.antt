-- What the end of a gathered run says of its formula.
use Rattle.std.proofs.Common.{◌≡◌, ℕ, Bool, true, false, List, [], Option, Some, None, Result, Ok, Err, inl, inr, refl, subst, sym}
use Rattle.std.specs.Result.{result_transpose}
use Rattle.std.specs.Io.KnownBytes.{Keeps}
use Rattle.std.proofs.KnownBytes.{Appends-nil, Appends-kept, Appends-trans}
use Rattle.theory.specs.Plans.{Search}
use Rattle.theory.specs.Reading as theory
use Rattle.cnf.specs.declared.limits.Limits.{Limits}
use Rattle.cnf.specs.Limits.{limits_of}
use Rattle.strategies.specs.Strategies.{Strategy}
use Rattle.strategies.specs.Strategies.{search_by}
use Rattle.spread.specs.RunFiles.{written_by}
use Rattle.runs.specs.Answer.{IsRightAnswer}
use Rattle.runs.specs.declared.fault.RunFault.{RunFault}
use Rattle.runs.specs.declared.stored.GatheredFrom.{GatheredFrom}
use Rattle.runs.specs.declared.verdict.Verdict.{Verdict}
use Rattle.runs.specs.declared.verdict.Verdict.TheVariants.{Satisfiable, Unsatisfiable}
use Rattle.commands.specs.Status.{verdict_status, Answers}
use Rattle.commands.proofs.StatusLemmas.{right-verdict}
use Rattle.cubesat.specs.Ends.{IsEndOf, IsGatherEnd, IsGatherStatus}
use Rattle.cubesat.specs.declared.gathered_store.Held.{Held}
use Rattle.cubesat.specs.declared.gathered.End.{End}
use Rattle.cubesat.specs.declared.gathered.End.TheVariants.{Status, Unproved}

pub transposed : {T E : Type 0} (r : Result (Option T) E) (s : Result T E) (x : T) → result_transpose r ≡ Some s → s ≡ Ok x → r ≡ Ok (Some x)
transposed (Ok (Some y)) s x e f = cc
transposed (Ok None) s x e f = absurd (cc)
transposed (Err fault) s x e f = absurd (cc)

-- of the run that is held a verdict is right, with what is written of an answer
abbrev pub HeldAnswers : Held → Option (List ℕ) → Option (List ℕ) → Verdict → Type 0
HeldAnswers held a b verdict = Answers (limits_of held.run.limits) (search_by (written_by held.run)) (Some held.formula.items) a b verdict

right-answers : (L : theory.Limits) (how : Search) (known p q a b : Option (List ℕ)) (verdict : Verdict) → IsRightAnswer L how known p q a b verdict → Answers L how known a b verdict
right-answers L how known p q a b verdict r = record {
  bytes = r.bytes;
  are = r.are;
  value = r.value;
  reads = r.reads;
  answer = r.answer;
  right = right-verdict L how r.value verdict r.proof r.answer r.right;
  written = r.answer_written;
}

by_any : (L : theory.Limits) (how other : Search) (known p q a b : Option (List ℕ)) → IsRightAnswer L how known p q a b Unsatisfiable → IsRightAnswer L other known p q a b Unsatisfiable
by_any L how other known p q a b r = record {
  bytes = r.bytes;
  are = r.are;
  value = r.value;
  reads = r.reads;
  proof = r.proof;
  answer = r.answer;
  right = r.right;
  proof_written = r.proof_written;
  answer_written = r.answer_written;
}

-- what a call over its formula's bytes, limits and strategy wrote
pub held-answers : (held : Held) (limits : Limits) (strategy : Strategy) (known p q a b : Option (List ℕ)) (verdict : Verdict)
    → limits ≡ held.run.limits → strategy ≡ written_by held.run → known ≡ Some held.formula.items
    → IsRightAnswer (limits_of limits) (search_by strategy) known p q a b verdict → HeldAnswers held a b verdict
held-answers held limits strategy known p q a b verdict of_limits of_strategy of_known right =
    let L = limits_of held.run.limits in
    let so = search_by (written_by held.run) in
    let first = subst (λ x. IsRightAnswer (limits_of x) (search_by strategy) known p q a b verdict) of_limits right in
    let second = subst (λ x. IsRightAnswer L (search_by x) known p q a b verdict) of_strategy first in
    right-answers L so (Some held.formula.items) p q a b verdict (subst (λ x. IsRightAnswer L so x p q a b verdict) of_known second)

-- the same of a formula without a model, of which the search says nothing
pub held-refuted : (held : Held) (limits : Limits) (how : Search) (known p q a b : Option (List ℕ)) (verdict : Verdict)
    → verdict ≡ Unsatisfiable → limits ≡ held.run.limits → known ≡ Some held.formula.items
    → IsRightAnswer (limits_of limits) how known p q a b verdict → HeldAnswers held a b verdict
held-refuted held limits how known p q a b verdict is of_limits of_known right =
    let L = limits_of held.run.limits in
    let so = search_by (written_by held.run) in
    let F = Some held.formula.items in
    let first = subst (λ x. IsRightAnswer (limits_of x) how known p q a b verdict) of_limits right in
    let second = subst (λ x. IsRightAnswer L how x p q a b verdict) of_known first in
    let refuted = by_any L how so F p q a b (subst (λ x. IsRightAnswer L how F p q a b x) is second) in
    subst (λ x. HeldAnswers held a b x) (sym is) (right-answers L so F p q a b Unsatisfiable refuted)

verdict-end : (held : Held) (a b : Option (List ℕ)) (verdict : Verdict) → HeldAnswers held a b verdict → IsGatherStatus held a b (verdict_status verdict)
verdict-end held a b Satisfiable answers = inl (refl, answers)
verdict-end held a b Unsatisfiable answers = inr (inl (refl, answers))

pub gathered-end : (held : Held) (a b : Option (List ℕ)) (r : Result GatheredFrom RunFault) (ended : Bool) (end : End) → IsEndOf r ended end
    → ((g : GatheredFrom) → r ≡ Ok g → HeldAnswers held a b g.verdict) → IsGatherEnd held a b end
gathered-end held a b (Ok g) ended end is answers = rw is (verdict-end held a b g.verdict (answers g refl))
gathered-end held a b (Err fault) true end is answers = rw is tt
gathered-end held a b (Err fault) false end is answers = rw is (inr (inr (inr refl)))

-- the same behind what wrote nothing
answers-after : (held : Held) (a b c : Option (List ℕ)) (verdict : Verdict) → Keeps a b → HeldAnswers held b c verdict → HeldAnswers held a c verdict
answers-after held a b c verdict kept w = record {
  bytes = w.bytes;
  are = w.are;
  value = w.value;
  reads = w.reads;
  answer = w.answer;
  right = w.right;
  written = Appends-trans a b c [] w.answer (Appends-kept a a b [] (Appends-nil a) kept) w.written;
}

pub end-after : (held : Held) (a b c : Option (List ℕ)) (end : End) → Keeps a b → IsGatherEnd held b c end → IsGatherEnd held a c end
end-after held a b c Unproved kept end = tt
end-after held a b c (Status status) kept (inl x) = inl (x.0, answers-after held a b c Satisfiable kept x.1)
end-after held a b c (Status status) kept (inr (inl x)) = inr (inl (x.0, answers-after held a b c Unsatisfiable kept x.1))
end-after held a b c (Status status) kept (inr (inr x)) = inr (inr x)
