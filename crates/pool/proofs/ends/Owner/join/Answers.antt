use Rattle.pool.proofs.DequeMoves.{merges}
use Rattle.pool.proofs.ends.Owner.join.Goals as goal

pub absorb-requires-clause-rule : goal.absorb-requires-clause-rule
absorb-requires-clause-rule c = merges _ _ _ _ c.self.invariant.1
