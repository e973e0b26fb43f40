use Rattle.std.proofs.Common.{arith}
use Rattle.cnf.proofs.PlaceLemmas.{lines-lf, lines-other}
use Rattle.cnf.proofs.scan.count_lf.Goals as goal
use Rattle.cnf.proofs.scan.count_lf.Goals.{then-byte-eq10, else-byte-eq10}

pub loop-byte-preserved : goal.loop-byte-preserved
loop-byte-preserved c =
    elim c.if-byte-eq10.branch [
      | then-byte-eq10 w ↦ rw w.count-is (lines-lf c.args.block.now c.loop-byte.byte-index _ c.loop-byte-test.true w.if-byte-eq10.true c.loop-byte.invariant.0, omega arith)
      | else-byte-eq10 w ↦ rw w.count-is (lines-other c.args.block.now c.loop-byte.byte-index _ c.loop-byte-test.true w.if-byte-eq10.false c.loop-byte.invariant.0, omega arith)
    ]
