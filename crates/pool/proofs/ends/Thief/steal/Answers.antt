use Rattle.std.proofs.Common.{ap, ◌∙◌}
use Rattle.pool.specs.Ends.{DequeEnd}
use Rattle.pool.proofs.DequeMoves.{gets, misses_as}
use Rattle.pool.proofs.ends.Thief.steal.Goals as goal

pub steal_as-requires-clause-takes : goal.steal_as-requires-clause-takes
steal_as-requires-clause-takes c = let h = c.requires.hand in gets _ _ h.0 h.1 h.2 (ap (λ (e : DequeEnd). e.notes.got) c.self.view_is ∙ h.3) (ap (λ (e : DequeEnd). e.notes.left) c.self.view_is ∙ c.requires.before)

pub steal_as-requires-clause-empty : goal.steal_as-requires-clause-empty
steal_as-requires-clause-empty c = let h = c.requires.hand in misses_as _ _ _ (h.0, h.1) h.2 c.self.invariant.1 (ap (λ (e : DequeEnd). e.notes.got) c.self.view_is ∙ h.3) (ap (λ (e : DequeEnd). e.notes.left) c.self.view_is ∙ c.requires.before)
