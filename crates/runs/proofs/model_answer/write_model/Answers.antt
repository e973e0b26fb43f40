use Rattle.std.proofs.Common.{refl, inl, subst, take, List, ℕ, rules}
use Rattle.std.specs.Io.KnownBytes.{Appends}
use Rattle.strategies.proofs.FoundModels.{found-satisfies}
use Rattle.runs.proofs.LoweredAnswers.{answer-stopped}
use Rattle.runs.proofs.model_answer.write_model.Goals as goal

pub write_lowered-requires-clause-model : goal.write_lowered-requires-clause-model
write_lowered-requires-clause-model g c = found-satisfies c.args.formula.now c.args.options.now.strategy c.args.plan c.args.model.items c.vars-vars.ensures.within.formula c.requires

pub returns : goal.returns
returns g c =
    let answer = c.in-Ok.ensures in
    (refl, answer.0, answer.1, subst (λ (text : List ℕ). Appends (g.W.Write.contents c.args.answer.now) (g.W.Write.contents c.write_text.new.writer) text) answer.2 (rw c.deref-2.ensures.value at c.in_ok-write_text.ensures))

pub returns-in_err-write_text : goal.returns-in_err-write_text
returns-in_err-write_text g c =
    answer-stopped c.args.formula.now c.args.options.now.strategy (g.L.Limit.is_reached c.args.options.now.limit.now) (g.W.Write.contents c.args.answer.now) (g.W.Write.contents c.write_text.new.writer) c.in-Ok.text.items c.from_residual.result c.in_err-write_text.field-0.0 c.in-Ok.ensures (search rules)
    (rw c.deref-2.ensures.value at c.in_err-write_text.ensures)
