use Rattle.heuristics.proofs.GainsAtOnce.{AreNoted-known, AreNoted-pushed}
use Rattle.heuristics.proofs.scores.note_first_gains.Goals as goal
use Rattle.heuristics.proofs.scores.note_first_gains.Goals.{then-scores-variable-eq0+in_ok-push, else-scores-variable-eq0}

pub loop-variable-preserved : goal.loop-variable-preserved
loop-variable-preserved c =
    let S = c.args.scores.now in
    let xs = c.args.seen.now in
    let k = c.loop-variable.variable-index in
    elim c.if-scores-variable-eq0.branch [
      | then-scores-variable-eq0+in_ok-push w ↦ rw w.gained-is (AreNoted-pushed S _ _ xs k c.loop-variable-test.true (c.requires.variables k c.loop-variable-test.true) c.loop-variable.invariant w.in_ok-push.ensures.items)
      | else-scores-variable-eq0 w ↦ rw w.gained-is (AreNoted-known S _ xs k c.loop-variable-test.true c.loop-variable.invariant w.if-scores-variable-eq0.false)
    ]
