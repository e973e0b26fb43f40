use Rattle.std.proofs.Common.{ap, ◌∙◌}
use Rattle.pool.specs.Ends.{DequeEnd}
use Rattle.pool.proofs.DequeMoves.{takes, finds}
use Rattle.pool.proofs.ends.Owner.take.Goals as goal

pub pop_as-requires-clause-fifo : goal.pop_as-requires-clause-fifo
pop_as-requires-clause-fifo c = let h = c.requires.hand in λ _. takes _ _ h.0 h.1 h.2 c.self.invariant.1 (ap (λ (e : DequeEnd). e.notes.got) c.self.view_is ∙ h.3) (ap (λ (e : DequeEnd). e.notes.left) c.self.view_is ∙ c.requires.before)

pub pop_as-requires-clause-empty : goal.pop_as-requires-clause-empty
pop_as-requires-clause-empty c = finds _ _ c.self.invariant.1
