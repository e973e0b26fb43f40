use Rattle.runs.proofs.StoredLemmas.{refutation-written}
use Rattle.runs.proofs.at_once.write_if_refuted.Goals as goal

pub returns-in-Ok-Refuted : goal.returns-in-Ok-Refuted
returns-in-Ok-Refuted g c =
    let F = c.args.formula.now in
    let are_true = g.O.GivesOutcomes.gives_own c.args.outcomes.now F c.args.plan in
    let through = c.in-Ok-Refuted.ensures in
    let written = refutation-written F c.args.plan are_true (g.P.Write.contents c.args.proof.now) (g.P.Write.contents c.go_through.new.out) (g.P.Write.contents c.end.new.writer) c.args.stream.now c.go_through.new.taker c.in-Ok-Refuted.field-0-0.items
    c.requires.stream c.requires.joined c.requires.buffer (rw c.in-Ok-Refuted.field-0-is at through.checked) (λ are. rw c.in-Ok-Refuted.field-0-is at (through.own are)) (rw c.in-Ok-Refuted.field-0-is at through.taken)
    c.in_ok-end-in-Ok-Refuted.ensures in
    (rw c.in-Ok-Refuted.field-0-is at through.says, written.0, written.1, written.2)
