use Rattle.std.proofs.Common.{ap, ◌∙◌}
use Rattle.join.specs.Walking.{line_of, lines_left}
use Rattle.join.proofs.StepLemmas.{steps-more}
use Rattle.join.proofs.steps.join.Goals as goal

pub loop-steps-preserved : goal.loop-steps-preserved
loop-steps-preserved c =
    let v = c.loop-steps.invariant in
    let m = c.next_line.new.self in
    let e = c.in_ok-next_line.ensures in
    let more = steps-more c.loop-steps.steps.items c.push.new.self.items c.in_ok-to_step.field-0 (line_of m.joiner.line) (lines_left c.loop-steps.lines) (lines_left m) _ v.within v.whole
    (rw c.if-branch.true at e.rest) (rw c.if-branch.true at e.within) c.in_ok-push.ensures.items (c.in_ok-to_step.ensures ∙ ap line_of c.line.ensures) in
    record { lawful = e.lawful; within = more.0; whole = more.1 }
