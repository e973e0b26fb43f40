use Rattle.cnf.specs.Limits.{limits_of}
use Rattle.runs.proofs.AnsweredLemmas.{AnswerSays-unread}
use Rattle.runs.proofs.LimitedLemmas.{answer-limited, unsolved-answer, said-answer}
use Rattle.runs.proofs.limited.answer_with.Goals as goal

pub returns-in-Err : goal.returns-in-Err
returns-in-Err g c =
    rw c.of_read.ensures
    (said-answer (limits_of c.args.options.now.limits) (g.L.Limit.is_reached c.args.options.now.limit.now) (g.R.Read.remaining c.args.input) c.args.options.now.strategy (g.W.Write.contents c.args.answer.now) (g.W.Write.contents c.args.answer.now) _
    (AnswerSays-unread (limits_of c.args.options.now.limits) (g.R.Read.remaining c.args.input) (g.W.Write.contents c.args.answer.now) c.args.options.now.strategy c.in-Err.fault c.in-Err.ensures))

pub returns-in_default : goal.returns-in_default
returns-in_default g c =
    unsolved-answer (limits_of c.args.options.now.limits) (g.L.Limit.is_reached c.args.options.now.limit.now) (g.R.Read.remaining c.args.input) (g.W.Write.contents c.args.answer.now) (g.W.Write.contents c.end_unsolved.new.answer) c.args.options.now.strategy c.end_unsolved.result c.end_unsolved.ensures

pub returns : goal.returns
returns g c =
    answer-limited (limits_of c.args.options.now.limits) (g.L.Limit.is_reached c.args.options.now.limit.now) (g.R.Read.remaining c.args.input) c.args.options.now.strategy c.in-Ok.formula c.in-Ok.ensures (g.W.Write.contents c.args.answer.now) (g.W.Write.contents c.write_answer.new.answer) c.write_answer.result
    c.write_answer.ensures
