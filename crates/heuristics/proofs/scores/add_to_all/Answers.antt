use Rattle.std.proofs.Common.{◌^◌, arith}
use Rattle.heuristics.proofs.RankingLemmas.{gained-more, room-left}
use Rattle.heuristics.proofs.scores.add_to_all.Goals as goal

pub overflow_add-scores : goal.overflow_add-scores
overflow_add-scores c =
    let k = c.loop-variable.variable-index in
    let bound = room-left c.args.scores.now c.loop-variable.scores c.args.seen.now k c.args.step (2 ^ 64) c.requires.distinct c.loop-variable-test.true (c.requires.variables k c.loop-variable-test.true) c.loop-variable.invariant c.requires.room in
    omega arith

pub loop-variable-preserved : goal.loop-variable-preserved
loop-variable-preserved c =
    let k = c.loop-variable.variable-index in
    let same = c.loop-variable.auto.scores in
    let inside = c.requires.variables k c.loop-variable-test.true in
    gained-more c.args.scores.now c.loop-variable.scores c.args.seen.now k c.args.step c.requires.distinct c.loop-variable-test.true (omega (arith, inside, same)) c.loop-variable.invariant
