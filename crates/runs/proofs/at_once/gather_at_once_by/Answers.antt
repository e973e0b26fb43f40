use Rattle.std.proofs.Common.{◌++◌, rules, refl, length, ap, sym, subst, ◌∙◌}
use Rattle.theory.specs.Truth.{Formula, IsFormula, Satisfiable}
use Rattle.theory.specs.Texts.{proof_text}
use Rattle.gathering.specs.Stored.{AreTrueFacts}
use Rattle.strategies.proofs.SatisfiedFormulas.{satisfiable-back}
use Rattle.join.specs.Before.{before_left}
use Rattle.cdcl.specs.Plans.{constants_from, first_units}
use Rattle.join.specs.Joining.{before_nodes}
use Rattle.runs.specs.Stored.{IsStreamFor}
use Rattle.strategies.proofs.DecidedTrees.{search-is}
use Rattle.strategies.specs.Strategies.{by_plan}
use Rattle.cnf.specs.Limits.{limits_of}
use Rattle.runs.specs.Faults.{fault_of_read}
use Rattle.runs.specs.declared.verdict.Verdict.TheVariants.{Unsatisfiable}
use Rattle.runs.proofs.RunLemmas.{IsRunOf-made, RunSays-unread}
use Rattle.runs.proofs.RightAnswers.{IsRightAnswer-made}
use Rattle.runs.proofs.StoredLemmas.{stored-truths, AreRightTexts-made, says-Stored, unanswered-Stored}
use Rattle.runs.proofs.AtOnceLemmas.{at-once-right, at-once-texts, HasNoProof-made, Stored-AtOnce, IfErr-AtOnce}
use Rattle.runs.proofs.at_once.gather_at_once_by.Goals as goal

pub returns-in-Err-clause-leaves : goal.returns-in-Err-clause-leaves
returns-in-Err-clause-leaves g c =
    let L = limits_of c.args.limits in
    let p = g.P.Write.contents c.args.proof.now in
    let a = g.W.Write.contents c.args.answer.now in
    let known = g.R.Read.remaining c.args.input in
    let fault = fault_of_read c.in-Err.fault in
    rw c.of_read.ensures
    (Stored-AtOnce L c.args.plan.search known p p a a fault (says-Stored L known (by_plan c.args.plan) p p a a fault (RunSays-unread L known p a (by_plan c.args.plan) c.in-Err.fault c.in-Err.ensures)))

pub returns-then-not-branch-clause-none : goal.returns-then-not-branch-clause-none
returns-then-not-branch-clause-none g c = λ is_none.
    let F = c.in-Ok.formula in
    let x = c.in-Ok-begun.begun in
    let same = c.formula-searched.ensures ∙ c.in-Ok-lines_before.ensures.formula in
    let inside = subst IsFormula same c.vars-searched_vars.ensures.within.formula in
    let found = subst Satisfiable same (rw c.if-not-branch.true at c.in_ok-write_all_if_refuted.ensures) in
    HasNoProof-made (limits_of c.args.limits) (g.R.Read.remaining c.args.input) (g.W.Write.contents c.args.answer.now) F c.in-Ok.ensures (satisfiable-back F c.args.plan x c.vars-vars.ensures.within.formula inside c.in-Ok-begun.ensures found)

pub returns-in_err-write_text-clause-leaves : goal.returns-in_err-write_text-clause-leaves
returns-in_err-write_text-clause-leaves g c =
    let L = limits_of c.args.limits in
    let F = c.in-Ok.formula in
    let G = c.formula-searched.result.now in
    let x = c.in-Ok-begun.begun in
    let before = before_left c.in-Ok-lines_before.before in
    let same = c.formula-searched.ensures ∙ c.in-Ok-lines_before.ensures.formula in
    let search_by = c.args.plan.search in
    let known = g.R.Read.remaining c.args.input in
    let p = g.P.Write.contents c.args.proof.now in
    let q = g.P.Write.contents c.write_all_if_refuted.new.proof in
    let a = g.W.Write.contents c.args.answer.now in
    let b = g.W.Write.contents c.write_text.new.writer in
    let are_true = g.H.Outcomes.GivesOutcomes.gives_own c.in-Ok-open.outcomes G c.args.plan in
    let written = rw c.if-not-branch.false at c.in_ok-write_all_if_refuted.ensures in
    let answer = c.in-Ok-answer_bytes.text.items in
    let whole = proof_text before ++ written.1 in
    let right = at-once-right L F G c.args.plan x are_true before written.1 answer c.vars-vars.ensures.within c.in-Ok-begun.ensures same c.in-Ok-lines_before.ensures.left written.0 c.in-Ok-answer_bytes.ensures written.2 in
    IfErr-AtOnce L search_by known p q a b c.from_residual-in_err-write_text.result
    (unanswered-Stored L search_by known p q a b c.from_residual-in_err-write_text.result c.in_err-write_text.field-0.0 whole answer (search rules) (AreRightTexts-made L search_by known F Unsatisfiable whole answer c.in-Ok.ensures right) written.3
    (rw c.deref.ensures.value at c.in_err-write_text.ensures))

pub returns-clause-answer_is_right : goal.returns-clause-answer_is_right
returns-clause-answer_is_right g c =
    let L = limits_of c.args.limits in
    let F = c.in-Ok.formula in
    let G = c.formula-searched.result.now in
    let x = c.in-Ok-begun.begun in
    let before = before_left c.in-Ok-lines_before.before in
    let same = c.formula-searched.ensures ∙ c.in-Ok-lines_before.ensures.formula in
    let are_true = g.H.Outcomes.GivesOutcomes.gives_own c.in-Ok-open.outcomes G c.args.plan in
    let written = rw c.if-not-branch.false at c.in_ok-write_all_if_refuted.ensures in
    let answer = c.in-Ok-answer_bytes.text.items in
    let right = at-once-right L F G c.args.plan x are_true before written.1 answer c.vars-vars.ensures.within c.in-Ok-begun.ensures same c.in-Ok-lines_before.ensures.left written.0 c.in-Ok-answer_bytes.ensures written.2 in
    IsRightAnswer-made L c.args.plan.search (g.R.Read.remaining c.args.input) (g.P.Write.contents c.args.proof.now) (g.P.Write.contents c.write_all_if_refuted.new.proof) (g.W.Write.contents c.args.answer.now) (g.W.Write.contents c.write_text.new.writer) F Unsatisfiable
    (proof_text before ++ written.1) answer c.in-Ok.ensures right written.3 (rw c.deref.ensures.value at c.in_ok-write_text.ensures)

pub returns-clause-says : goal.returns-clause-says
returns-clause-says g c = λ are.
    let L = limits_of c.args.limits in
    let F = c.in-Ok.formula in
    let G = c.formula-searched.result.now in
    let x = c.in-Ok-begun.begun in
    let before = before_left c.in-Ok-lines_before.before in
    let same = c.formula-searched.ensures ∙ c.in-Ok-lines_before.ensures.formula in
    let known = g.R.Read.remaining c.args.input in
    let facts = g.S.KeepsFacts.facts in
    let are_true = g.H.Outcomes.GivesOutcomes.gives_own c.in-Ok-open.outcomes G c.args.plan in
    let truths = stored-truths facts L known c.args.plan c.args.store c.args.store F x c.in-Ok.ensures c.in-Ok-begun.ensures refl are in
    let opened = c.in-Ok-open.ensures.own (subst (λ (K : Formula). AreTrueFacts facts K c.args.plan c.args.store) (sym same) truths) in
    let written = rw c.if-not-branch.false at c.in_ok-write_all_if_refuted.ensures in
    let answer = c.in-Ok-answer_bytes.text.items in
    let whole = proof_text before ++ written.1 in
    let texts = at-once-texts L F G c.args.plan x are_true before written.1 answer c.vars-vars.ensures.within c.in-Ok-begun.ensures same c.in-Ok-lines_before.ensures.left opened written.0 c.in-Ok-answer_bytes.ensures written.2 in
    record {
      proof = whole;
      answer = answer;
      run = IsRunOf-made L known (by_plan c.args.plan) F Unsatisfiable whole answer c.in-Ok.ensures texts;
      proof_written = written.3;
      answer_written = rw c.deref.ensures.value at c.in_ok-write_text.ensures;
    }

pub write_all_if_refuted-requires-clause-stream : goal.write_all_if_refuted-requires-clause-stream
write_all_if_refuted-requires-clause-stream g c =
    let named = search-is c.search.result (constants_from c.args.plan.search) c.args.plan.search c.search.ensures in
    subst (λ s. IsStreamFor s c.formula-searched.result.now c.in-Ok-begin.stream) named c.in-Ok-begin.ensures.stream

pub write_all_if_refuted-requires-clause-joined : goal.write_all_if_refuted-requires-clause-joined
write_all_if_refuted-requires-clause-joined g c =
    let named = search-is c.search.result (constants_from c.args.plan.search) c.args.plan.search c.search.ensures in
    c.in-Ok-begin.ensures.joined ∙ ap (λ s. before_nodes (length c.formula-searched.result.now.clauses) (first_units s c.formula-searched.result.now)) named
