use Rattle.std.proofs.Common.{◌∙◌, sym, arith, ◌<◌, inl, inr, ne_eqb}
use Rattle.std.proofs.lemmas.Bool.{cases_lt}
use Rattle.cnf.proofs.NumberLemmas.{digits-word, plain-ended}
use Rattle.cnf.proofs.number.read_long.Goals as goal

pub returns-then-end-digits-clause-all : goal.returns-then-end-digits-clause-all
returns-then-end-digits-clause-all c = λ k from to. elim (cases_lt k c.read_digits-digits.result.end) [
  | inl l ↦ digits-word c.args.bytes.now c.args.from c.read_digits-digits.result.end k c.read_digits-digits.ensures.above c.read_digits-digits.ensures.within c.read_digits-digits.ensures.digits from l
  | inr g ↦ c.word_end-end.ensures.all k g to
]

pub returns-else-end-digits-clause-all : goal.returns-else-end-digits-clause-all
returns-else-end-digits-clause-all c = λ k from to. elim (cases_lt k c.read_digits-digits.result.end) [
  | inl l ↦ digits-word c.args.bytes.now c.args.from c.read_digits-digits.result.end k c.read_digits-digits.ensures.above c.read_digits-digits.ensures.within c.read_digits-digits.ensures.digits from l
  | inr g ↦ c.word_end-end.ensures.all k g to
]

pub returns-else-end-digits-clause-plain : goal.returns-else-end-digits-clause-plain
returns-else-end-digits-clause-plain c =
    let above = c.word_end-end.ensures.above in
    let within = c.word_end-end.ensures.within in
    let later : c.read_digits-digits.result.end < c.word_end-end.result = omega (arith, c.if-end-digits.false) in
    ne_eqb _ _ c.if-end-digits.false
    ∙ sym (plain-ended c.args.minus c.args.bytes.now c.args.from c.read_digits-digits.result.end c.word_end-end.result c.read_digits-digits.ensures.above later within (c.read_digits-digits.ensures.end (omega arith)))
