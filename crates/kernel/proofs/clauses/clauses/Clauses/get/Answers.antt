use Rattle.std.proofs.Common.{◌≡◌, ap, sym, ◌∙◌, length, arith}
use Rattle.cnf.specs.Pieces.{pieces}
use Rattle.cnf.proofs.Pieces.{length-pieces}
use Rattle.kernel.proofs.Shown.{length-shown, shown-read-forgotten, shown-read, none-there, some-there}
use Rattle.kernel.proofs.clauses.clauses.Clauses.get.Goals.{else-is_empty-via-then-is_empty+else-self-index, else-is_empty-via-else-is_empty}
use Rattle.kernel.proofs.clauses.clauses.Clauses.get.Goals as goal

pub literals_at-kept-requires-clause-within : goal.literals_at-kept-requires-clause-within
literals_at-kept-requires-clause-within c =
    let long : length c.args.self.now ≡ length c.deref-2.result.now = sym (ap length c.self.view_is) ∙ (length-shown c.self.inside.first _ ∙ (length-pieces _ _ _ ∙ ap length (sym c.deref-2.ensures.value))) in
    omega (arith, c.requires, long)

pub returns-then-self-index : goal.returns-then-self-index
returns-then-self-index c =
    shown-read-forgotten c.self.inside.first c.args.index (pieces 0 c.self.inside.lits.items c.self.inside.ends.items) c.args.self.now c.literals_at-kept.result.now c.self.inside.tautology c.self.view_is
    (rw (c.deref.ensures.value, c.deref-2.ensures.value) at c.literals_at-kept.ensures) (none-there _ c.if-is_empty.ensures) c.if-self-index.true c.self.invariant.1

pub returns-else-is_empty : goal.returns-else-is_empty
returns-else-is_empty c =
    shown-read c.self.inside.first c.args.index (pieces 0 c.self.inside.lits.items c.self.inside.ends.items) c.args.self.now c.literals_at-kept.result.now c.self.view_is
    (rw (c.deref.ensures.value, c.deref-2.ensures.value) at c.literals_at-kept.ensures) (λ none. elim c.else-is_empty.branch [
      | else-is_empty-via-then-is_empty+else-self-index w ↦ omega (arith, w.if-self-index.false)
      | else-is_empty-via-else-is_empty w ↦ absurd (some-there _ w.if-is_empty.ensures none)
    ])
