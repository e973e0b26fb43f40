use Rattle.std.proofs.Common.{sym, ap, subst, ◌∙◌, ℕ}
use Rattle.theory.specs.Ledger.{IsFit}
use Rattle.pool.specs.Ends.{DequeEnd}
use Rattle.pool.proofs.DequeMoves.{puts}
use Rattle.pool.proofs.ends.Owner.put.Goals as goal

pub push_as-requires-clause-pushes : goal.push_as-requires-clause-pushes
push_as-requires-clause-pushes c = puts _ _ _ c.self.invariant.1 (sym (ap (λ (e : DequeEnd). e.notes.vars) c.self.view_is ∙ c.requires.vars), subst (λ (n : ℕ). IsFit n c.args.cube) (sym (ap (λ (e : DequeEnd). e.notes.vars) c.self.view_is ∙ c.requires.vars)) c.requires.fit)
