use Rattle.std.proofs.Common.{◌∙◌, ap, sym, leb-true}
use Rattle.theory.specs.Trails.{Entry}
use Rattle.cdcl.proofs.MarkedSets.{reason-level_0, reason-many}
use Rattle.cdcl.proofs.analysis.marks.reason_used.Goals as goal
use Rattle.cdcl.proofs.analysis.marks.reason_used.Goals.{then-entry-eq0, else-entry-eq0}

pub returns-then-marks-ge2 : goal.returns-then-marks-ge2
returns-then-marks-ge2 c k S lawful h there is_open =
    let level = sym (ap (λ (e : Entry). e.level) c.entry.view_is) in
    ap (λ (e : Entry). e.reason) c.entry.view_is ∙
    elim c.if-entry-eq0.branch [
      | then-entry-eq0 w ↦ reason-level_0 k S _ _ c.args.entry lawful h there is_open (level ∙ w.if-entry-eq0.true)
      | else-entry-eq0 w ↦ reason-many k S _ _ c.args.entry lawful h there is_open (leb-true _ _ (sym w.value-is ∙ c.if-marks-ge2.true))
    ]
