use Rattle.std.proofs.Common.{arith, length-set}
use Rattle.std.proofs.lemmas.Fmt.{length-decimal-le}
use Rattle.lrat_text.proofs.placed.place_literal.Goals as goal

pub place_number-requires : goal.place_number-requires
place_number-requires c = omega (arith, length-decimal-le 10 c.from-var.result (omega arith) (omega arith) (omega arith))

pub returns-then-positive-clause-within : goal.returns-then-positive-clause-within
returns-then-positive-clause-within c = omega (arith, length-decimal-le 10 c.from-var.result (omega arith) (omega arith) (omega arith))

pub place_number-requires-2 : goal.place_number-requires-2
place_number-requires-2 c = omega (arith, length-set c.args.bytes.now c.args.at 45, length-decimal-le 10 c.from-var.result (omega arith) (omega arith) (omega arith))

pub returns-clause-within : goal.returns-clause-within
returns-clause-within c = omega (arith, length-decimal-le 10 c.from-var.result (omega arith) (omega arith) (omega arith))
