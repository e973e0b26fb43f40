use Rattle.std.proofs.Common.{ap, ◌∙◌}
use Rattle.pool.specs.Ends.{DequeEnd}
use Rattle.pool.proofs.DequeMoves.{nexts}
use Rattle.pool.proofs.ends.Owner.next.Goals as goal

pub another-pass-requires : goal.another-pass-requires
another-pass-requires c = nexts _ _ c.self.invariant.1 (ap (λ (e : DequeEnd). e.notes.left) c.self.view_is ∙ c.requires)
