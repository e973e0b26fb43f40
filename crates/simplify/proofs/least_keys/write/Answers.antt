use Rattle.std.proofs.Common.{◌≡◌, ◌<◌, ◌≤◌, ◌*◌, ◌+◌, ◌/◌, length, arith, min, slice_index}
use Rattle.std.proofs.Math.ListN.{length-set}
use Rattle.simplify.proofs.LeastKeyLemmas.{AreLesserBut-written, AreSameLeaves-node}
use Rattle.simplify.proofs.least_keys.write.Goals as goal

pub loop-node-preserved : goal.loop-node-preserved
loop-node-preserved c =
    let T = c.loop-node.keys in
    let p = c.loop-node.node / 2 in
    let i = c.loop-node.invariant in
    let more = c.loop-node-test.true in
    let inside = i.inside in
    let lesser : c.min-lesser.result ≡ min (slice_index T (2 * p)) (slice_index T (2 * p + 1)) = c.min-lesser.ensures in
    let same = length-set T p c.min-lesser.result in
    let start = length-set c.args.keys.now c.args.leaf c.args.key in
    let long = i.leaves.0 in
    let low : 1 ≤ p = omega arith in
    let less : p < length T = omega arith in
    let even = c.requires.even in
    let node : 2 * p < length T = omega arith in
    record {
      lesser = AreLesserBut-written T p c.min-lesser.result low less i.lesser lesser;
      inside = omega arith;
      leaves = AreSameLeaves-node _ T p c.min-lesser.result node i.leaves;
    }
