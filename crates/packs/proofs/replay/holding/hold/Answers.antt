use Rattle.std.proofs.Common.{◌∙◌}
use Rattle.packs.proofs.HoldingLemmas.{cube-free, cube-push}
use Rattle.packs.proofs.replay.holding.hold.Goals as goal

pub push-requires-clause-is_free : goal.push-requires-clause-is_free
push-requires-clause-is_free c =
    cube-free c.args.cube.now c.loop-lit.held.literals c.loop-lit.lit-index c.lit-item.result c.requires.cube c.loop-lit-test.true c.lit-item.is c.loop-lit.invariant.held

pub loop-lit-preserved : goal.loop-lit-preserved
loop-lit-preserved c = record {
  held = rw c.in_ok-push.ensures.ok (cube-push c.args.cube.now c.loop-lit.held.literals c.loop-lit.lit-index c.lit-item.result c.requires.cube c.loop-lit-test.true c.lit-item.is c.loop-lit.invariant.held);
  vars = c.push.ensures.vars ∙ c.loop-lit.invariant.vars;
}
