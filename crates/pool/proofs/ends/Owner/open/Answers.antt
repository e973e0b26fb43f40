use Rattle.std.proofs.Common.{sym, refl, ◌∙◌, arith, subst}
use Rattle.std.proofs.lemmas.List.Elements.{All-nil}
use Rattle.theory.specs.Literals.{Literal, IsVariable}
use Rattle.theory.specs.Ledger.{IsFit}
use Rattle.pool.proofs.DequeMoves.{begins, marks_as, unmarks_as, finds_mark_as}
use Rattle.pool.proofs.ends.Owner.open.Goals as goal

pub fifo_as-requires : goal.fifo_as-requires
fifo_as-requires c = begins

pub push_as-requires-clause-pushes : goal.push_as-requires-clause-pushes
push_as-requires-clause-pushes c = let e = c.in_ok-worker.ensures in marks_as _ _ _ e.2 e.4 (refl, subst (IsFit c.args.vars) (sym c.root.ensures) (All-nil (λ (l : Literal). IsVariable c.args.vars l.var), omega arith))

pub pop_as-requires-clause-fifo : goal.pop_as-requires-clause-fifo
pop_as-requires-clause-fifo c = λ _. unmarks_as _ _ c.args.vars c.root.result (c.push_as.ensures.same.2 ∙ c.in_ok-worker.ensures.2) c.in-Ok.ensures.rule.0

pub pop_as-requires-clause-empty : goal.pop_as-requires-clause-empty
pop_as-requires-clause-empty c = finds_mark_as _ _ c.args.vars c.root.result (c.push_as.ensures.same.2 ∙ c.in_ok-worker.ensures.2) c.in-Ok.ensures.rule.0
