use Rattle.std.proofs.Common.{◌+◌, ◌*◌, min, arith, sym, ap, ◌∙◌}
use Rattle.cnf.proofs.NumberLemmas.{digits-more}
use Rattle.cnf.proofs.number.read_digits.Goals as goal

pub loop-end-preserved : goal.loop-end-preserved
loop-end-preserved c =
    let more = digits-more c.args.bytes.now c.args.from c.loop-end.end c.loop-end.size c.min-size.result (omega arith) c.loop-end-test.true c.loop-end.invariant.2
    (sym c.is_ascii_digit.ensures.value ∙ c.if-is_ascii_digit.true) c.loop-end.invariant.3 (c.min-size.ensures ∙ ap (λ d. min 10000000000 (c.loop-end.size * 10 + d)) c.from.ensures) in
    (omega arith, omega arith, more.0, more.1)
