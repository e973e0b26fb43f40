use Rattle.std.proofs.Common.{rules}
use Rattle.join.proofs.NumberLemmas.{within-split}
use Rattle.join.proofs.line.ProofLine.split.Goals as goal

pub returns-clause-within : goal.returns-clause-within
returns-clause-within c =
    within-split c.args.id c.args.left c.args.place.now c.put_negations.new.clause.items c.push-2.new.self.items c.requires.id c.requires.left.0 c.requires.left.1 c.requires.splits (search rules) (search rules)
