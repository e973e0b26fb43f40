use Rattle.std.proofs.Common.{[], rules}
use Rattle.join.specs.Walking.{learnt_in}
use Rattle.join.proofs.NumberLemmas.{within-learnt}
use Rattle.join.proofs.line.ProofLine.learn.Goals as goal

pub returns-clause-within : goal.returns-clause-within
returns-clause-within c =
    within-learnt c.args.clauses c.args.first c.args.id c.args.place.now (learnt_in c.args.self.now []) c.put_negations.new.clause.items _ c.requires.id.0 c.requires.id.1 c.requires.first.0 c.requires.splits c.requires.clause c.requires.hints
    (search rules) (search rules)
