use Rattle.std.proofs.Common.{◌≡◌, ◌+◌, ◌≤◌, take, arith}
use Rattle.cnf.specs.Lits.{code}
use Rattle.simplify.specs.Tables.{times}
use Rattle.simplify.proofs.Times.{times-room}
use Rattle.simplify.proofs.counting.uncount.Goals as goal

pub overflow_sub-counts : goal.overflow_sub-counts
overflow_sub-counts c =
    let clause = c.args.clause.now in
    let l = c.lit-item.result in
    let at : c.code.result ≡ code l = c.code.ensures in
    let room : times (code l) (take c.loop-lit.lit-index clause) + 1 ≤ times (code l) clause = times-room clause c.loop-lit.lit-index l c.loop-lit-test.true c.lit-item.is in
    let so_far = c.loop-lit.invariant.counts (code l) in
    let all = c.requires.counted (code l) in
    rw at (omega arith)
