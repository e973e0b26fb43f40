use Rattle.std.proofs.Common.{sym, ap, subst, ◌∙◌, ℕ}
use Rattle.pool.specs.Ends.{DequeEnd}
use Rattle.theory.specs.Ledger.{IsFit}
use Rattle.pool.proofs.DequeMoves.{puts_root}
use Rattle.pool.proofs.ends.Owner.put_root.Goals as goal

pub push_as-requires-clause-pushes : goal.push_as-requires-clause-pushes
push_as-requires-clause-pushes c = let vars = ap (λ (e : DequeEnd). e.notes.vars) c.self.view_is ∙ c.requires.vars in puts_root _ _ _ c.self.invariant.1 (ap (λ (e : DequeEnd). e.notes.put) c.self.view_is ∙ c.requires.first) (sym vars, subst (λ (n : ℕ). IsFit n c.args.cube) (sym vars) c.requires.fit)
