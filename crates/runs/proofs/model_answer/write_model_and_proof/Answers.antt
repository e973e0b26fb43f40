use Rattle.std.proofs.Common.{refl, inl, inr, subst, List, ℕ, rules}
use Rattle.std.specs.Io.KnownBytes.{Appends}
use Rattle.cnf.specs.Limits.{limits_of}
use Rattle.strategies.proofs.FoundModels.{found-satisfies}
use Rattle.runs.proofs.LoweredAnswers.{answer-stopped, flush-failed}
use Rattle.runs.proofs.model_answer.write_model_and_proof.Goals as goal

pub returns-in_err-write_text : goal.returns-in_err-write_text
returns-in_err-write_text g c =
    flush-failed (limits_of c.args.options.now.limits) c.args.formula.now c.args.options.now.strategy (g.L.Limit.is_reached c.args.options.now.limit.now) c.args.plan c.args.model.items (g.P.Write.contents c.args.proof.now) (g.P.Write.contents c.write_text.new.writer) (g.W.Write.contents c.args.answer.now)
    c.from_residual.result c.in_err-write_text.field-0.0 c.vars-vars.ensures.within.formula c.requires (search rules) c.in_err-write_text.ensures

pub write_lowered-requires-clause-model : goal.write_lowered-requires-clause-model
write_lowered-requires-clause-model g c = found-satisfies c.args.formula.now c.args.options.now.strategy c.args.plan c.args.model.items c.vars-vars.ensures.within.formula c.requires

pub returns : goal.returns
returns g c =
    let answer = c.in-Ok.ensures in
    inr (
      c.in_ok-write_text-2.ensures,
      (refl, answer.0, answer.1, subst (λ (text : List ℕ). Appends (g.W.Write.contents c.args.answer.now) (g.W.Write.contents c.write_text-3.new.writer) text) answer.2 (rw c.deref-2.ensures.value at c.in_ok-write_text-3.ensures)),
    )

pub returns-in_err-write_text-2 : goal.returns-in_err-write_text-2
returns-in_err-write_text-2 g c =
    flush-failed (limits_of c.args.options.now.limits) c.args.formula.now c.args.options.now.strategy (g.L.Limit.is_reached c.args.options.now.limit.now) c.args.plan c.args.model.items (g.P.Write.contents c.args.proof.now) (g.P.Write.contents c.write_text-2.new.writer) (g.W.Write.contents c.args.answer.now)
    c.from_residual-in_err-write_text-2.result c.in_err-write_text-2.field-0.0 c.vars-vars.ensures.within.formula c.requires (search rules) c.in_err-write_text-2.ensures

pub returns-in_err-write_text-3 : goal.returns-in_err-write_text-3
returns-in_err-write_text-3 g c =
    inr (
      c.in_ok-write_text-2.ensures,
      answer-stopped c.args.formula.now c.args.options.now.strategy (g.L.Limit.is_reached c.args.options.now.limit.now) (g.W.Write.contents c.args.answer.now) (g.W.Write.contents c.write_text-3.new.writer) c.in-Ok.text.items c.from_residual-in_err-write_text-3.result c.in_err-write_text-3.field-0.0 c.in-Ok.ensures (search rules)
          (rw c.deref-2.ensures.value at c.in_err-write_text-3.ensures),
    )
