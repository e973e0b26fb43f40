use Rattle.std.proofs.Common.{refl, ap, ◌+◌, arith}
use Rattle.cnf.proofs.NumberLemmas.{word-some, number-any}
use Rattle.cnf.proofs.number.read_number.Goals as goal

pub returns-clause-number : goal.returns-clause-number
returns-clause-number c =
    let e = c.read_plain-plain.ensures in
    let r = c.read_plain-plain.result in
    number-any c.args.bytes.now c.args.start r.0.end _ _ r.1 r.0.size
    (word-some c.args.bytes.now c.args.start _ r.0.end (omega (arith, c.from.ensures)) e.above c.requires.within c.requires.word e.end) e.within refl (ap (λ k. c.args.start + k) c.from.ensures) e.plain e.size
