use Rattle.std.proofs.Common.{◌/◌, sym, arith}
use Rattle.itoa.proofs.Decimal.{length_one, length_two, length_pair}
use Rattle.lrat_text.proofs.placed.few_digits.Goals as goal

pub returns-then-n-lt10 : goal.returns-then-n-lt10
returns-then-n-lt10 c = sym (length_one c.args.n c.if-n-lt10.true)

pub returns-then-n-lt100 : goal.returns-then-n-lt100
returns-then-n-lt100 c = sym (length_two c.args.n c.if-n-lt10.false c.if-n-lt100.true)

pub returns-then-n-lt1000 : goal.returns-then-n-lt1000
returns-then-n-lt1000 c = omega (arith, length_pair c.args.n c.if-n-lt100.false (omega arith), length_one (c.args.n / 100) (omega arith))

pub returns-else-n-lt1000 : goal.returns-else-n-lt1000
returns-else-n-lt1000 c = omega (arith, length_pair c.args.n c.if-n-lt100.false (omega arith), length_two (c.args.n / 100) (omega arith) (omega arith))
