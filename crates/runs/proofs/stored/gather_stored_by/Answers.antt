use Rattle.std.proofs.Common.{rules, refl, sym, subst, ◌∙◌}
use Rattle.theory.specs.Truth.{Formula, IsFormula, Satisfiable}
use Rattle.gathering.specs.Stored.{AreTrueFacts}
use Rattle.join.specs.Before.{before_left}
use Rattle.runs.specs.Stored.{IsProofOf}
use Rattle.strategies.specs.Strategies.{search_by}
use Rattle.cnf.specs.Limits.{limits_of}
use Rattle.runs.specs.Faults.{fault_of_read}
use Rattle.runs.proofs.RunLemmas.{IsRunOf-made, RunSays-unread}
use Rattle.runs.proofs.WrittenLemmas.{Keeps-same}
use Rattle.runs.proofs.RightAnswers.{IsRightAnswer-made}
use Rattle.runs.proofs.StoredLemmas.{stored-right, stored-texts, stored-truths, refuted-searched, AreRightTexts-made, says-Stored, unanswered-Stored}
use Rattle.runs.proofs.stored.gather_stored_by.Goals as goal

pub returns-in-Err-clause-leaves : goal.returns-in-Err-clause-leaves
returns-in-Err-clause-leaves g c =
    let p = g.P.Write.contents c.args.proof.now in
    let a = g.W.Write.contents c.args.answer.now in
    let known = g.R.Read.remaining c.args.input in
    rw c.of_read.ensures
    (says-Stored (limits_of c.args.limits) known c.args.strategy p p a a (fault_of_read c.in-Err.fault) (RunSays-unread (limits_of c.args.limits) known p a c.args.strategy c.in-Err.fault c.in-Err.ensures))

pub answer_of-requires : goal.answer_of-requires
answer_of-requires g c = (search_by c.args.strategy, c.in-Ok-answered.ensures.says)

pub answered-requires-clause-checked : goal.answered-requires-clause-checked
answered-requires-clause-checked g c = rw (← c.plan-plan.ensures, ← c.formula-searched.ensures) c.in-Ok-go_through.ensures.checked

pub write_proof_of-requires-clause-gives : goal.write_proof_of-requires-clause-gives
write_proof_of-requires-clause-gives g c =
    subst (λ (K : Formula). g.H.Outcomes.GivesOutcomes.gives c.go_through.new.source K c.plan-plan.result) (c.formula-searched.ensures ∙ sym (c.formula-searched-2.ensures ∙ c.in-Ok-lines_before.ensures.formula)) c.in-Ok-go_through.ensures.still

pub write_proof_of-requires-clause-refuted : goal.write_proof_of-requires-clause-refuted
write_proof_of-requires-clause-refuted g c = λ is.
    let F = c.in-Ok.formula in
    let x = c.in-Ok-begun.begun in
    let G = c.formula-searched-2.result.now in
    let before = before_left c.in-Ok-lines_before.before in
    let same = c.formula-searched-2.ensures ∙ c.in-Ok-lines_before.ensures.formula in
    let inside = subst IsFormula c.formula-searched.ensures c.vars-searched_vars.ensures.within.formula in
    subst (λ (K : Formula). ¬ (Satisfiable K)) (sym same)
    (refuted-searched (search_by c.args.strategy) F c.plan-plan.result x c.in-Ok-answered.tree c.vars-vars.ensures.within.formula inside c.in-Ok-begun.ensures c.in-Ok-answered.ensures.says is)

pub returns-in-Err-answer_of-clause-leaves : goal.returns-in-Err-answer_of-clause-leaves
returns-in-Err-answer_of-clause-leaves g c = (Keeps-same (g.P.Write.contents c.args.proof.now), Keeps-same (g.W.Write.contents c.args.answer.now))

pub returns-in_err-write_text-clause-leaves : goal.returns-in_err-write_text-clause-leaves
returns-in_err-write_text-clause-leaves g c =
    let F = c.in-Ok.formula in
    let x = c.in-Ok-begun.begun in
    let G = c.formula-searched-2.result.now in
    let before = before_left c.in-Ok-lines_before.before in
    let same = c.formula-searched-2.ensures ∙ c.in-Ok-lines_before.ensures.formula in
    let known = g.R.Read.remaining c.args.input in
    let are_true = g.H.Outcomes.GivesOutcomes.gives_own c.go_through.new.source G c.plan-plan.result in
    let written = c.in_ok-write_proof_of.ensures in
    let of = subst (λ (K : Formula). IsProofOf K c.plan-plan.result are_true before c.in-Ok-answered.tree written.0) same written.1 in
    let answer = c.in-Ok-answer_of.pair.1.items in
    let right = stored-right (limits_of c.args.limits) F c.plan-plan.result x (search_by c.args.strategy) are_true c.in-Ok-answered.tree c.in-Ok-answer_of.pair.0 before written.0 answer c.vars-vars.ensures.within c.in-Ok-begun.ensures c.in-Ok-lines_before.ensures.left c.in-Ok-answered.ensures.says
    c.in-Ok-answer_of.ensures of in
    unanswered-Stored (limits_of c.args.limits) (search_by c.args.strategy) known (g.P.Write.contents c.args.proof.now) (g.P.Write.contents c.write_proof_of.new.proof) (g.W.Write.contents c.args.answer.now) (g.W.Write.contents c.write_text.new.writer)
    c.from_residual-in_err-write_text.result c.in_err-write_text.field-0.0 written.0 answer (search rules)
    (AreRightTexts-made (limits_of c.args.limits) (search_by c.args.strategy) known F c.in-Ok-answer_of.pair.0 written.0 answer c.in-Ok.ensures right) written.2 (rw c.deref.ensures.value at c.in_err-write_text.ensures)

pub returns-clause-answer_is_right : goal.returns-clause-answer_is_right
returns-clause-answer_is_right g c =
    let F = c.in-Ok.formula in
    let x = c.in-Ok-begun.begun in
    let G = c.formula-searched-2.result.now in
    let before = before_left c.in-Ok-lines_before.before in
    let same = c.formula-searched-2.ensures ∙ c.in-Ok-lines_before.ensures.formula in
    let are_true = g.H.Outcomes.GivesOutcomes.gives_own c.go_through.new.source G c.plan-plan.result in
    let written = c.in_ok-write_proof_of.ensures in
    let of = subst (λ (K : Formula). IsProofOf K c.plan-plan.result are_true before c.in-Ok-answered.tree written.0) same written.1 in
    let answer = c.in-Ok-answer_of.pair.1.items in
    IsRightAnswer-made (limits_of c.args.limits) (search_by c.args.strategy) (g.R.Read.remaining c.args.input) (g.P.Write.contents c.args.proof.now) (g.P.Write.contents c.write_proof_of.new.proof) (g.W.Write.contents c.args.answer.now) (g.W.Write.contents c.write_text.new.writer) F
    c.in-Ok-answer_of.pair.0 written.0 answer c.in-Ok.ensures
    (stored-right (limits_of c.args.limits) F c.plan-plan.result x (search_by c.args.strategy) are_true c.in-Ok-answered.tree c.in-Ok-answer_of.pair.0 before written.0 answer c.vars-vars.ensures.within c.in-Ok-begun.ensures c.in-Ok-lines_before.ensures.left c.in-Ok-answered.ensures.says
    c.in-Ok-answer_of.ensures of) written.2
    (rw c.deref.ensures.value at c.in_ok-write_text.ensures)

pub returns-clause-says : goal.returns-clause-says
returns-clause-says g c = λ are.
    let F = c.in-Ok.formula in
    let x = c.in-Ok-begun.begun in
    let G = c.formula-searched-2.result.now in
    let before = before_left c.in-Ok-lines_before.before in
    let same = c.formula-searched-2.ensures ∙ c.in-Ok-lines_before.ensures.formula in
    let known = g.R.Read.remaining c.args.input in
    let are_true = g.H.Outcomes.GivesOutcomes.gives_own c.go_through.new.source G c.plan-plan.result in
    let facts = g.S.KeepsFacts.facts in
    let plan = c.plan-plan.result in
    let S = c.formula-searched.result.now in
    let first = c.formula-searched.ensures in
    let truths = stored-truths facts (limits_of c.args.limits) known plan c.args.store c.args.store F x c.in-Ok.ensures c.in-Ok-begun.ensures refl (rw c.plan-plan.ensures are) in
    let opened = c.in-Ok-open.ensures.own (subst (λ (K : Formula). AreTrueFacts facts K plan c.args.store) (sym first) truths) in
    let still = subst (λ (K : Formula). g.H.Outcomes.GivesOutcomes.gives_own c.go_through.new.source K plan) (first ∙ sym same) (c.in-Ok-go_through.ensures.still_own opened) in
    let own = c.in-Ok-answered.ensures.own (rw (← c.plan-plan.ensures, ← first) (c.in-Ok-go_through.ensures.own opened)) in
    let written = c.in_ok-write_proof_of.ensures in
    let of = subst (λ (K : Formula). IsProofOf K c.plan-plan.result are_true before c.in-Ok-answered.tree written.0) same written.1 in
    let answer = c.in-Ok-answer_of.pair.1.items in
    let texts = stored-texts (limits_of c.args.limits) F c.args.strategy plan x are_true c.in-Ok-answered.tree c.in-Ok-answer_of.pair.0 before written.0 answer c.vars-vars.ensures.within c.in-Ok-begun.ensures c.in-Ok-lines_before.ensures.left c.requires.alone c.plan-plan.ensures still own
    c.in-Ok-answered.ensures.says c.in-Ok-answer_of.ensures of in
    record {
      proof = written.0;
      answer = answer;
      run = IsRunOf-made (limits_of c.args.limits) known c.args.strategy F c.in-Ok-answer_of.pair.0 written.0 answer c.in-Ok.ensures texts;
      proof_written = written.2;
      answer_written = rw c.deref.ensures.value at c.in_ok-write_text.ensures;
    }
