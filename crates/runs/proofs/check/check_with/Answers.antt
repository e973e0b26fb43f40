use Rattle.std.proofs.Common.{rules}
use Rattle.cnf.specs.Limits.{limits_of}
use Rattle.lrat.specs.Extended.{checked_formula}
use Rattle.runs.proofs.CheckRuns.{CheckSays-unread, CheckSays-stopped, IsCheckOf-made}
use Rattle.runs.proofs.StreamedLemmas.{some_reading}
use Rattle.runs.proofs.check.check_with.Goals as goal

pub returns-in-Err : goal.returns-in-Err
returns-in-Err g c =
    rw c.of_read.ensures (CheckSays-unread (limits_of c.args.rules.limits) c.args.rules.variables (g.R.Read.remaining c.args.formula) (g.P.Read.remaining c.args.proof) (g.W.Write.contents c.args.answer.now) c.in-Err.fault c.in-Err.ensures)

pub returns : goal.returns
returns g c =
    let F = c.in-Ok.formula in
    let judged = c.in_ok-judged.ensures in
    let r = some_reading (limits_of c.args.rules.limits) judged.bytes in
    record {
      line = c.in-Ok-checked_line.line.text.items;
      check = IsCheckOf-made (limits_of c.args.rules.limits) c.args.rules.variables (g.R.Read.remaining c.args.formula) (g.P.Read.remaining c.args.proof) F judged.bytes c.in-Ok-checked_line.line.checked c.in-Ok-checked_line.line.text.items c.in-Ok.ensures judged.are
          (c.in-Ok-checked_line.ensures (limits_of c.args.rules.limits) (checked_formula (limits_of c.args.rules.limits) c.args.rules.variables F) judged.bytes r.0 r.1 (judged.says r.0 r.1));
      written = rw c.deref.ensures.value at c.in_ok-write_text.ensures;
    }

pub returns-in_err-write_text : goal.returns-in_err-write_text
returns-in_err-write_text g c =
    let F = c.in-Ok.formula in
    let judged = c.in_ok-judged.ensures in
    let r = some_reading (limits_of c.args.rules.limits) judged.bytes in
    let check = IsCheckOf-made (limits_of c.args.rules.limits) c.args.rules.variables (g.R.Read.remaining c.args.formula) (g.P.Read.remaining c.args.proof) F judged.bytes c.in-Ok-checked_line.line.checked c.in-Ok-checked_line.line.text.items c.in-Ok.ensures judged.are
    (c.in-Ok-checked_line.ensures (limits_of c.args.rules.limits) (checked_formula (limits_of c.args.rules.limits) c.args.rules.variables F) judged.bytes r.0 r.1 (judged.says r.0 r.1)) in
    search rules

pub returns-in_err-judged : goal.returns-in_err-judged
returns-in_err-judged g c =
    CheckSays-stopped (limits_of c.args.rules.limits) c.args.rules.variables (g.R.Read.remaining c.args.formula) (g.P.Read.remaining c.args.proof) (g.W.Write.contents c.args.answer.now) c.in-Ok.formula _ c.from_residual.result c.in-Ok.ensures c.in_err-judged.ensures (search rules)
