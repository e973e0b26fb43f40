use Rattle.runs.proofs.TidyRuns.{second-written}
use Rattle.runs.proofs.tidy.write_tidy.Goals as goal

pub returns : goal.returns
returns g c =
    second-written _ _ _ c.args.text.now.header.items c.args.text.now.clauses.items _ c.write_text.result
    (rw c.deref.ensures.value at c.in_ok-write_bytes.ensures) (rw c.deref-2.ensures.value at c.write_text.ensures)
