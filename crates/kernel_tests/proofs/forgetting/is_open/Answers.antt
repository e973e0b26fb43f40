use Rattle.std.proofs.Common.{arith}
use Rattle.theory.specs.Trails.{literals}
use Rattle.kernel_tests.proofs.OpenStates.{open-more, open-all}
use Rattle.kernel_tests.proofs.forgetting.is_open.Goals as goal

pub loop-number-preserved : goal.loop-number-preserved
loop-number-preserved c =
    let k = c.args.kernel.now in
    let count = c.count.ensures in
    record {
      none = open-more (literals k.trail) k.clauses c.loop-number.number c.arranged.result.now c.loop-number.invariant.none c.arranged.ensures (c.all_false.ensures c.if-all_false.false);
      within = omega (arith, c.loop-number-test.true, count);
    }

pub returns : goal.returns
returns c is =
    let count = c.count.ensures in
    open-all (literals c.args.kernel.now.trail) c.args.kernel.now.clauses c.loop-number.number (omega (arith, c.loop-number-test.false, count)) c.loop-number.invariant.none
