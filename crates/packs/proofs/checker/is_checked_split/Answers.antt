use Rattle.packs.proofs.CheckedSplits.{least-answers}
use Rattle.packs.proofs.checker.is_checked_split.Goals as goal

pub returns-in-Some-clause-split : goal.returns-in-Some-clause-split
returns-in-Some-clause-split c = λ search splitting.
    least-answers search c.args.formula.now c.in-Some.splits c.args.cube.now c.args.var c.is_least.result (rw c.in-Some.is at splitting) c.is_least.ensures.least
