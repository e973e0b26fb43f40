use Rattle.std.proofs.Common.{is_ok, ap}
use Rattle.pool.specs.Hands.{HandView}
use Rattle.cubes.specs.Solved.{results_by}
use Rattle.theory.specs.Ledger.{more, less}
use Rattle.theory.specs.Beginnings.{begun_by}
use Rattle.cubes.proofs.GoingOn.{GoesOn-itself, GoesOn-then, GoesOn-call, GoesOn-same}
use Rattle.cubes.proofs.RoundParts.{put-part, refused-part}
use Rattle.cubes.proofs.Turns.{done-nothing}
use Rattle.cubes.proofs.hands.Worker.hand_on.Goals as goal

pub returns-in-Ok-clause-part : goal.returns-in-Ok-clause-part
returns-in-Ok-clause-part g c =
    put-part (begun_by c.args.plan.search c.args.formula.now) c.args.plan c.args.half c.args.self.now.hand.ledger c.more.new.self.ledger c.put.new.self.ledger (results_by g.L.KeepsLines.lines c.args.self.now.solved.items)
    (ap (λ (h : HandView). h.ledger) c.more.ensures.noted) (ap (λ (h : HandView). h.ledger) (rw c.in-Ok.is at c.put.ensures.put))

pub returns-in-Err-clause-part : goal.returns-in-Err-clause-part
returns-in-Err-clause-part g c =
    let refused = rw c.in-Err.is at c.put.ensures.put in
    refused-part (begun_by c.args.plan.search c.args.formula.now) c.args.plan (is_ok c.carry_on-in-Err.result) c.args.half c.in-Err.refused c.args.self.now.hand.ledger c.more.new.self.ledger c.put.new.self.ledger
    c.less.new.self.ledger c.carry_on-in-Err.new.self.hand.ledger (results_by g.L.KeepsLines.lines c.args.self.now.solved.items) (results_by g.L.KeepsLines.lines c.carry_on-in-Err.new.self.solved.items)
    (ap (λ (h : HandView). h.ledger) c.more.ensures.noted) refused.0 (ap (λ (h : HandView). h.ledger) refused.1) (ap (λ (h : HandView). h.ledger) c.less.ensures.noted) c.carry_on-in-Err.ensures.part

pub returns-in-Err-clause-calls : goal.returns-in-Err-clause-calls
returns-in-Err-clause-calls g c =
    let first = c.args.self.now.hand.ledger in
    let refused = rw c.in-Err.is at c.put.ensures.put in
    let counted = GoesOn-call first c.args.self.now.hand c.more.new.self (GoesOn-itself first) more c.more.ensures.noted tt in
    let back = GoesOn-same first c.more.new.self c.put.new.self counted refused.1 in
    let uncounted = GoesOn-call first c.put.new.self c.less.new.self back less c.less.ensures.noted tt in
    GoesOn-then first c.less.new.self.ledger c.carry_on-in-Err.new.self.hand.ledger uncounted c.carry_on-in-Err.ensures.calls

pub returns-in-Ok-clause-done : goal.returns-in-Ok-clause-done
returns-in-Ok-clause-done g c = done-nothing (results_by g.L.KeepsLines.lines c.args.self.now.solved.items)
