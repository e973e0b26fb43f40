use Rattle.std.proofs.Common.{◌∙◌}
use Rattle.std.proofs.lemmas.List.{length-set}
use Rattle.lookahead.proofs.TableLemmas.{counted-next, counted-before}
use Rattle.lookahead.proofs.occurrences.count.Goals as goal
use Rattle.lookahead.proofs.occurrences.count.Goals.{then-stamps-code, else-stamps-code}

pub loop-lit-preserved : goal.loop-lit-preserved
loop-lit-preserved c = elim c.if-stamps-code.branch [
  | then-stamps-code w ↦ rw (w.counts-is, w.stamps-is) (record {
    counted = counted-next c.args.vars c.args.number c.loop-lit.lit-index c.code-code.result c.args.clause.now c.lit-item.result c.args.counts.now c.loop-lit.counts c.loop-lit.stamps c.requires.number c.requires.over
        c.loop-lit-test.true c.lit-item.is c.code-code.ensures c.loop-lit.invariant.room.0 c.loop-lit.invariant.room.1 w.if-stamps-code.true c.loop-lit.invariant.counted;
    room = (length-set c.loop-lit.counts c.code-code.result _ ∙ c.loop-lit.invariant.room.0, length-set c.loop-lit.stamps c.code-code.result _ ∙ c.loop-lit.invariant.room.1);
  })
  | else-stamps-code w ↦ rw (w.counts-is, w.stamps-is) (record {
    counted = counted-before c.args.vars c.args.number c.loop-lit.lit-index c.code-code.result c.args.clause.now c.lit-item.result c.args.counts.now c.loop-lit.counts c.loop-lit.stamps c.requires.over
        c.loop-lit-test.true c.lit-item.is c.code-code.ensures w.if-stamps-code.false c.loop-lit.invariant.counted;
    room = c.loop-lit.invariant.room;
  })
]
