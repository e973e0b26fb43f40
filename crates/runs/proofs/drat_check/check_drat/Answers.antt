use Rattle.std.proofs.Common.{rules}
use Rattle.cnf.specs.Limits.{limits_of}
use Rattle.lrat.specs.Extended.{checked_formula}
use Rattle.runs.proofs.DratLemmas.{DratSays-unread, IsDratCheckOf-made}
use Rattle.runs.proofs.StreamedLemmas.{some_reading}
use Rattle.runs.proofs.drat_check.check_drat.Goals as goal

pub returns-in-Err : goal.returns-in-Err
returns-in-Err g c =
    rw c.of_read.ensures (DratSays-unread (limits_of c.args.rules.limits) (g.R.Read.remaining c.args.formula) (g.W.Write.contents c.args.answer.now) c.in-Err.fault c.in-Err.ensures)

pub returns : goal.returns
returns g c =
    let L = limits_of c.args.rules.limits in
    let variables = c.args.rules.variables in
    let F = c.in-Ok.formula in
    let judged = c.in_ok-judged.ensures in
    let r = some_reading L judged.bytes in
    record {
      line = c.in-Ok-drat_line.line.text.items;
      check = IsDratCheckOf-made L variables (g.R.Read.remaining c.args.formula) F c.in-Ok-drat_line.line.checked c.in-Ok-drat_line.line.text.items c.in-Ok.ensures
          (c.in-Ok-drat_line.ensures.line L (checked_formula L variables F) judged.bytes r.0 r.1 (judged.says r.0 r.1));
      written = rw c.deref.ensures.value at c.in_ok-write_text.ensures;
    }

pub returns-in_err-write_text : goal.returns-in_err-write_text
returns-in_err-write_text g c =
    let L = limits_of c.args.rules.limits in
    let variables = c.args.rules.variables in
    let F = c.in-Ok.formula in
    let judged = c.in_ok-judged.ensures in
    let r = some_reading L judged.bytes in
    let check = IsDratCheckOf-made L variables (g.R.Read.remaining c.args.formula) F c.in-Ok-drat_line.line.checked c.in-Ok-drat_line.line.text.items c.in-Ok.ensures
    (c.in-Ok-drat_line.ensures.line L (checked_formula L variables F) judged.bytes r.0 r.1 (judged.says r.0 r.1)) in
    search rules
