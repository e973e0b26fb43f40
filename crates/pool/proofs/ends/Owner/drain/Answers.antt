use Rattle.std.proofs.Common.{sym, subst}
use Rattle.pool.specs.Deque.{Whole}
use Rattle.pool.specs.Ends.{DequeEnd}
use Rattle.pool.proofs.DequeMoves.{drains_front, finds}
use Rattle.pool.proofs.ends.Owner.drain.Goals as goal

pub pop_as-requires-clause-fifo : goal.pop_as-requires-clause-fifo
pop_as-requires-clause-fifo c = λ _. drains_front _ _ c.self.invariant.1 (subst (λ (e : DequeEnd). Whole e.notes) (sym c.self.view_is) c.requires)

pub pop_as-requires-clause-empty : goal.pop_as-requires-clause-empty
pop_as-requires-clause-empty c = finds _ _ c.self.invariant.1
