use Rattle.std.proofs.Common.{◌∙◌, sym, arith}
use Rattle.cnf.proofs.LeftTokens.{tokens_left-blank, tokens_left-lf, column-lf}
use Rattle.cnf.proofs.scan.skip_to_token.Goals as goal

pub skip_comment-at-requires-clause-first : goal.skip_comment-at-requires-clause-first
skip_comment-at-requires-clause-first c = column-lf c.args.bytes.now c.loop-at.at c.loop-at-test.true c.if-bytes-at-eq10.true

pub loop-at-preserved-then-bytes-at-eq10 : goal.loop-at-preserved-then-bytes-at-eq10
loop-at-preserved-then-bytes-at-eq10 c = (
  omega (arith, c.skip_comment-at.ensures.above),
  c.skip_comment-at.ensures.within,
  λ part h. c.skip_comment-at.ensures.tokens part h ∙ sym (tokens_left-lf part c.args.bytes.now c.loop-at.at c.loop-at-test.true c.if-bytes-at-eq10.true h) ∙ c.loop-at.invariant.2 part h,
)

pub loop-at-preserved : goal.loop-at-preserved
loop-at-preserved c = (
  omega arith,
  omega arith,
  λ part h. tokens_left-blank part c.args.bytes.now c.loop-at.at c.loop-at-test.true (sym c.is_word_byte.ensures ∙ c.if-not-is_word_byte.true) c.if-bytes-at-eq10.false ∙ c.loop-at.invariant.2 part h,
)
