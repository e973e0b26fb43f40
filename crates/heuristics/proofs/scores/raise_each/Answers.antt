use Rattle.std.proofs.Common.{◌≡◌, ◌^◌, ◌∙◌, length, drop, arith}
use Rattle.heuristics.proofs.RankingLemmas.{gained-more, room-left}
use Rattle.heuristics.proofs.scores.raise_each.Goals as goal

pub overflow_add-score : goal.overflow_add-score
overflow_add-score c =
    let k = c.loop-variable.variable-index in
    let bound = room-left c.args.scores.now c.loop-variable.scores c.args.seen.now k c.args.step (2 ^ 64) c.requires.distinct c.loop-variable-test.true (c.requires.variables k c.loop-variable-test.true).1 c.loop-variable.invariant.gained c.requires.room in
    omega arith

pub loop-variable-preserved : goal.loop-variable-preserved
loop-variable-preserved c =
    let k = c.loop-variable.variable-index in
    let e = c.raise.ensures in
    let same = c.loop-variable.auto.scores in
    let inside = (c.requires.variables k c.loop-variable-test.true).1 in
    let leaves : drop (length c.args.scores.now) c.raise.new.winners ≡ drop (length c.args.scores.now) c.loop-variable.winners = rw same at e.leaves in
    record {
      played = e.played;
      leaves = leaves ∙ c.loop-variable.invariant.leaves;
      gained = rw e.scores (gained-more c.args.scores.now c.loop-variable.scores c.args.seen.now k c.args.step c.requires.distinct c.loop-variable-test.true (omega (arith, inside, same)) c.loop-variable.invariant.gained);
    }
