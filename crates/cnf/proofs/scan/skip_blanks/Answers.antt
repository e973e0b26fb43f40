use Rattle.std.proofs.Common.{◌∙◌, sym, arith}
use Rattle.cnf.specs.Tokens.{in_header}
use Rattle.cnf.proofs.LeftTokens.{tokens_left-blank}
use Rattle.cnf.proofs.scan.skip_blanks.Goals as goal

pub loop-at-preserved : goal.loop-at-preserved
loop-at-preserved c =
    (omega arith, omega arith, tokens_left-blank in_header c.args.bytes.now c.loop-at.at c.loop-at-test.true (sym c.is_word_byte.ensures ∙ c.if-not-is_word_byte.true) c.if-bytes-at-ne10.true ∙ c.loop-at.invariant.2)
