use Rattle.std.proofs.Common.{arith, sym, ap, ◌∙◌, true, get_or, ◌≡◌, ◌+◌, ◌*◌}
use Rattle.std.specs.Char.{is_ascii_digit}
use Rattle.cnf.proofs.NumberLemmas.{digits-next, digit-small}
use Rattle.cnf.proofs.number.read_short.Goals as goal

pub loop-end-preserved : goal.loop-end-preserved
loop-end-preserved c =
    let digit : is_ascii_digit (get_or c.args.bytes.now c.loop-end.end 0) ≡ true = sym c.is_ascii_digit.ensures.value ∙ c.if-is_ascii_digit.true in
    let more = digits-next c.args.bytes.now c.args.from c.loop-end.end c.loop-end.size (c.loop-end.size * 10 + c.from.result) (omega arith) c.loop-end-test.true c.loop-end.invariant.2
    digit c.loop-end.invariant.3 (ap (λ d. c.loop-end.size * 10 + d) c.from.ensures) in
    let small = digit-small (get_or c.args.bytes.now c.loop-end.end 0) digit in
    (omega arith, omega arith, more.0, more.1, omega (arith, c.from.ensures, c.if-size-lt-CAP.true))
