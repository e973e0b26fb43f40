use Rattle.std.proofs.Common.{subst, sym}
use Rattle.pool.specs.Deque.{Whole}
use Rattle.pool.specs.Ends.{DequeEnd}
use Rattle.pool.proofs.closing.drain.Goals as goal

pub drain-requires : goal.drain-requires
drain-requires c = subst (λ (e : DequeEnd). Whole e.notes) (sym c.drain.invariant.2) c.requires
