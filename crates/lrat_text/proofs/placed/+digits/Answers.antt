use Rattle.std.proofs.Common.{◌/◌, arith}
use Rattle.std.proofs.lemmas.Fmt.{length-decimal-le}
use Rattle.itoa.proofs.Decimal.{length_one, length_two, length_pair, length_four}
use Rattle.lrat_text.proofs.placed.+digits.Goals as goal

pub overflow_add-result : goal.overflow_add-result
overflow_add-result t c = record { fits = omega (arith, length-decimal-le 20 (c.args.n / 10000) (omega arith) (omega arith) (omega arith), c.digits.ensures) }

pub returns-then-n-lt100000 : goal.returns-then-n-lt100000
returns-then-n-lt100000 t c = omega (arith, length_four c.args.n c.if-n-lt10000.false (omega arith), length_one (c.args.n / 10000) (omega arith))

pub returns-then-n-lt1000000 : goal.returns-then-n-lt1000000
returns-then-n-lt1000000 t c = omega (arith, length_four c.args.n c.if-n-lt10000.false (omega arith), length_two (c.args.n / 10000) (omega arith) (omega arith))

pub returns-then-n-lt10000000 : goal.returns-then-n-lt10000000
returns-then-n-lt10000000 t c =
    omega (arith, length_four c.args.n c.if-n-lt10000.false (omega arith), length_pair (c.args.n / 10000) (omega arith) (omega arith), length_one (c.args.n / 10000 / 100) (omega arith))

pub returns-else-n-lt10000000 : goal.returns-else-n-lt10000000
returns-else-n-lt10000000 t c = omega (arith, length_four c.args.n c.if-n-lt10000.false (omega arith), c.digits.ensures)
