use Rattle.cnf.proofs.LeftTokens.{tokens_left-comment, tokens_left-plain}
use Rattle.cnf.proofs.scan.skip_comment.Goals as goal
use Rattle.cnf.proofs.scan.skip_comment.Goals.{else-from-bytes-via-then-from-bytes+else-bytes-from-eq99, else-from-bytes-via-else-from-bytes}
use Rattle.std.proofs.Common.{arith}

pub returns-then-bytes-from-eq99-clause-tokens : goal.returns-then-bytes-from-eq99-clause-tokens
returns-then-bytes-from-eq99-clause-tokens c =
    λ part h. tokens_left-comment part c.args.bytes.now c.args.from c.line_end.result c.if-from-bytes.true c.if-bytes-from-eq99.true c.line_end.ensures.above c.line_end.ensures.within
    c.line_end.ensures.all c.line_end.ensures.end h

pub returns-else-from-bytes-clause-tokens : goal.returns-else-from-bytes-clause-tokens
returns-else-from-bytes-clause-tokens c =
    λ part h. elim c.else-from-bytes.branch [
      | else-from-bytes-via-then-from-bytes+else-bytes-from-eq99 w ↦ tokens_left-plain part c.args.bytes.now c.args.from (λ l. w.if-bytes-from-eq99.false) c.requires.first h
      | else-from-bytes-via-else-from-bytes w ↦ tokens_left-plain part c.args.bytes.now c.args.from (λ l. absurd (omega arith)) c.requires.first h
    ]
