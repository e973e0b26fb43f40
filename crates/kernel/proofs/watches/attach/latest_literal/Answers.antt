use Rattle.kernel.proofs.Visits.{over-var}
use Rattle.kernel.proofs.WatchChoice.{latest-turn, latest-pair}
use Rattle.kernel.proofs.watches.attach.latest_literal.Goals as goal
use Rattle.kernel.proofs.watches.attach.latest_literal.Goals.{then-is_later, else-is_later}

pub is_later-requires-clause-latest : goal.is_later-requires-clause-latest
is_later-requires-clause-latest c = over-var c.args.trail.now.vars c.args.clause.now c.loop-lit.latest c.requires.over c.loop-lit.invariant.member

pub loop-lit-preserved : goal.loop-lit-preserved
loop-lit-preserved c =
    let more = latest-turn c.args.trail.now.entries c.args.clause.now c.loop-lit.lit-index c.args.free c.loop-lit.latest c.lit-item.result c.is_later.result c.lit-item.is c.loop-lit-test.true c.is_later.ensures c.loop-lit.invariant in
    elim c.if-is_later.branch [ then-is_later w ↦ rw w.latest-is (rw w.if-is_later.true at more) | else-is_later w ↦ rw w.latest-is (rw w.if-is_later.false at more) ]

pub returns-clause-pair : goal.returns-clause-pair
returns-clause-pair c = latest-pair c.args.trail.now.entries c.args.clause.now c.loop-lit.lit-index c.args.free c.loop-lit.latest c.loop-lit-test.false c.requires.free c.loop-lit.invariant
