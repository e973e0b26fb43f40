use Rattle.std.proofs.Common.{rules}
use Rattle.runs.proofs.LoweredAnswers.{status-stopped, lowering-refused, below-written, below-stopped}
use Rattle.runs.proofs.model_answer.write_lowered.Goals as goal

pub returns-in_err-write_text : goal.returns-in_err-write_text
returns-in_err-write_text g c =
    status-stopped c.args.formula.now c.args.options.now.strategy (g.L.Limit.is_reached c.args.options.now.limit.now) c.requires.lowers c.args.model.items (g.W.Write.contents c.args.answer.now) (g.W.Write.contents c.write_text.new.writer)
    c.from_residual.result c.in_err-write_text.field-0.0 c.requires.model (search rules) c.in_err-write_text.ensures

pub returns-in_default : goal.returns-in_default
returns-in_default g c =
    lowering-refused c.args.formula.now c.args.options.now.strategy (g.L.Limit.is_reached c.args.options.now.limit.now) c.requires.lowers c.args.model.items (g.W.Write.contents c.args.answer.now) (g.W.Write.contents c.write_text.new.writer) c.requires.model c.in_ok-write_text.ensures

pub returns : goal.returns
returns g c =
    below-written c.args.formula.now c.args.options.now.strategy (g.L.Limit.is_reached c.args.options.now.limit.now) c.requires.lowers c.reached-is_reached.result (g.W.Write.contents c.args.answer.now) (g.W.Write.contents c.write_text.new.writer) (g.W.Write.contents c.write_text-2.new.writer)
    c.in-Ok-values_of.pair.0 c.in-Ok-values_of.pair.1.items c.reached-is_reached.ensures c.in-Ok-values_of.ensures c.in_ok-write_text.ensures (rw c.deref.ensures.value at c.in_ok-write_text-2.ensures)

pub returns-in_err-write_text-2 : goal.returns-in_err-write_text-2
returns-in_err-write_text-2 g c =
    below-stopped c.args.formula.now c.args.options.now.strategy (g.L.Limit.is_reached c.args.options.now.limit.now) c.requires.lowers c.reached-is_reached.result (g.W.Write.contents c.args.answer.now) (g.W.Write.contents c.write_text.new.writer) (g.W.Write.contents c.write_text-2.new.writer)
    c.in-Ok-values_of.pair.0 c.in-Ok-values_of.pair.1.items c.from_residual-in_err-write_text-2.result c.in_err-write_text-2.field-0.0 c.reached-is_reached.ensures c.in-Ok-values_of.ensures c.in_ok-write_text.ensures (search rules) (rw c.deref.ensures.value at c.in_err-write_text-2.ensures)
