use Rattle.std.proofs.Common.{arith}
use Rattle.cnf.proofs.InputLemmas.{full-read, last-read, last-taken}
use Rattle.cnf.proofs.input.read_bytes.Goals as goal
use Rattle.cnf.proofs.input.read_bytes.Goals.{else-loop-text-test, then-loop-text-test+in_ok-read_chunk+then-not-branch}

pub returns-clause-bytes : goal.returns-clause-bytes
returns-clause-bytes g c = elim c.loop-text-test.branch [
  | else-loop-text-test w ↦ rw w.text-is (full-read c.args.most _ _ c.loop-text.text.items c.loop-text.invariant.2 (omega (arith, c.loop-text.text.ok.0, c.loop-text.invariant.1, c.len.ensures)))
  | then-loop-text-test+in_ok-read_chunk+then-not-branch w ↦
      rw w.text-is (last-read c.args.most _ _ _ c.loop-text.text.items _ _ _ c.loop-text.invariant.2 w.in_ok-read_chunk.ensures w.if-not-branch.true (omega (arith, c.loop-text.text.ok.0, c.loop-text.invariant.1)))
]

pub returns-clause-taken : goal.returns-clause-taken
returns-clause-taken g c = elim c.loop-text-test.branch [
  | else-loop-text-test w ↦ rw (w.text-is, w.input-is) c.loop-text.invariant.2
  | then-loop-text-test+in_ok-read_chunk+then-not-branch w ↦
      rw (w.text-is, w.input-is) (last-taken _ _ _ c.loop-text.text.items _ _ _ c.loop-text.invariant.2 w.in_ok-read_chunk.ensures)
]
