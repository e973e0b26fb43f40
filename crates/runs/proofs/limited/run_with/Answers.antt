use Rattle.cnf.specs.Limits.{limits_of}
use Rattle.runs.proofs.LimitedLemmas.{decided-limited, unsolved-limited, said-limited, limited-right}
use Rattle.runs.proofs.RunLemmas.{RunSays-unread}
use Rattle.runs.proofs.limited.run_with.Goals as goal

pub returns-in-Err-clause-says : goal.returns-in-Err-clause-says
returns-in-Err-clause-says g c =
    rw c.of_read.ensures
    (said-limited (limits_of c.args.options.now.limits) (g.L.Limit.is_reached c.args.options.now.limit.now) (g.R.Read.remaining c.args.input) c.args.options.now.strategy (g.P.Write.contents c.args.proof.now) (g.P.Write.contents c.args.proof.now) (g.W.Write.contents c.args.answer.now) (g.W.Write.contents c.args.answer.now) _
    (RunSays-unread (limits_of c.args.options.now.limits) (g.R.Read.remaining c.args.input) (g.P.Write.contents c.args.proof.now) (g.W.Write.contents c.args.answer.now) c.args.options.now.strategy c.in-Err.fault c.in-Err.ensures))

pub returns-in_default-clause-says : goal.returns-in_default-clause-says
returns-in_default-clause-says g c =
    unsolved-limited (limits_of c.args.options.now.limits) (g.L.Limit.is_reached c.args.options.now.limit.now) (g.R.Read.remaining c.args.input) (g.P.Write.contents c.args.proof.now) (g.W.Write.contents c.args.answer.now) (g.W.Write.contents c.end_unsolved.new.answer) c.args.options.now.strategy c.end_unsolved.result
    c.end_unsolved.ensures

pub returns-clause-says : goal.returns-clause-says
returns-clause-says g c =
    decided-limited (limits_of c.args.options.now.limits) (g.L.Limit.is_reached c.args.options.now.limit.now) (g.R.Read.remaining c.args.input) c.args.options.now.strategy c.in-Ok.formula c.in-Ok.ensures (g.P.Write.contents c.args.proof.now) (g.P.Write.contents c.write_decided.new.proof) (g.W.Write.contents c.args.answer.now)
    (g.W.Write.contents c.write_decided.new.answer) c.write_decided.result c.write_decided.ensures

pub returns-clause-answer_is_right : goal.returns-clause-answer_is_right
returns-clause-answer_is_right g c =
    limited-right (limits_of c.args.options.now.limits) (g.L.Limit.is_reached c.args.options.now.limit.now) (g.R.Read.remaining c.args.input) c.args.options.now.strategy (g.P.Write.contents c.args.proof.now) (g.P.Write.contents c.write_decided.new.proof) (g.W.Write.contents c.args.answer.now)
    (g.W.Write.contents c.write_decided.new.answer) c.write_decided.result (returns-clause-says g c)
