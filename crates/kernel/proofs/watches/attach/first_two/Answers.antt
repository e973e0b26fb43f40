use Rattle.std.proofs.Common.{rules}
use Rattle.kernel.proofs.WatchChoice.{in-whole, pair-one}
use Rattle.kernel.proofs.watches.attach.first_two.Goals as goal

pub returns-clause-pair : goal.returns-clause-pair
returns-clause-pair c = pair-one c.args.clause.now c.index-clause-0.result c.loop-lit.lit-index (in-whole c.args.clause.now 0 c.index-clause-0.result c.index-clause-0.is (search rules)) c.loop-lit-test.false c.loop-lit.invariant
