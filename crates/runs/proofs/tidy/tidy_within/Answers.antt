use Rattle.cnf.specs.Limits.{limits_of}
use Rattle.runs.proofs.TidyRuns.{TidySays-unread}
use Rattle.runs.proofs.tidy.tidy_within.Goals as goal

pub returns-in-Err : goal.returns-in-Err
returns-in-Err g c =
    rw c.of_read.ensures (TidySays-unread (Unit {0}) (limits_of c.args.limits) (g.R.Read.remaining c.args.formula) (g.W.Write.contents c.args.answer.now) c.in-Err.fault c.in-Err.ensures)
