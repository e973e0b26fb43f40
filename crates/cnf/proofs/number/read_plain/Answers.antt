use Rattle.cnf.proofs.NumberLemmas.{digits-word}
use Rattle.cnf.proofs.number.read_plain.Goals as goal

pub returns-clause-all : goal.returns-clause-all
returns-clause-all c = λ k from to.
    digits-word c.args.bytes.now c.args.from c.read_short-short.result.end k c.read_short-short.ensures.above c.read_short-short.ensures.within c.read_short-short.ensures.digits from to
