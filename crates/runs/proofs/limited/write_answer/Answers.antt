use Rattle.std.proofs.Common.{rules}
use Rattle.cnf.specs.Limits.{limits_of}
use Rattle.runs.proofs.AnsweredLemmas.{refuted-answer}
use Rattle.runs.proofs.LimitedLemmas.{refuted-written, refuted-stopped}
use Rattle.runs.proofs.limited.write_answer.Goals as goal

pub returns : goal.returns
returns g c =
    let L = limits_of c.args.options.now.limits in
    let d = c.args.decided in
    let text = c.in-Ok.text.items in
    let is = refuted-answer (λ unkept. unkept) L c.args.formula.now c.args.options.now.strategy d.plan d.begun c.in-Refuted.field-0 text c.vars-vars.ensures.within c.requires.chosen (rw c.in-Refuted.is at c.requires.tree) c.in-Ok.ensures in
    refuted-written L c.args.formula.now c.args.options.now.strategy (g.L.Limit.is_reached c.args.options.now.limit.now) (g.W.Write.contents c.args.answer.now) (g.W.Write.contents c.write_text.new.writer) text is (rw c.deref.ensures.value at c.in_ok-write_text-in-Refuted.ensures)

pub returns-in_err-write_text-in-Refuted : goal.returns-in_err-write_text-in-Refuted
returns-in_err-write_text-in-Refuted g c =
    let L = limits_of c.args.options.now.limits in
    let d = c.args.decided in
    let text = c.in-Ok.text.items in
    let is = refuted-answer (λ unkept. unkept) L c.args.formula.now c.args.options.now.strategy d.plan d.begun c.in-Refuted.field-0 text c.vars-vars.ensures.within c.requires.chosen (rw c.in-Refuted.is at c.requires.tree) c.in-Ok.ensures in
    refuted-stopped L c.args.formula.now c.args.options.now.strategy (g.L.Limit.is_reached c.args.options.now.limit.now) (g.W.Write.contents c.args.answer.now) (g.W.Write.contents c.write_text.new.writer) text c.from_residual.result c.in_err-write_text-in-Refuted.field-0.0 is (search rules)
    (rw c.deref.ensures.value at c.in_err-write_text-in-Refuted.ensures)
