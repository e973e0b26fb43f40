use Rattle.std.proofs.Common.{◌≡◌, ap, sym, ◌∙◌, length, arith}
use Rattle.cnf.proofs.Pieces.{length-pieces}
use Rattle.packs.proofs.replay.line_clauses.LineClauses.get.Goals as goal

pub literals_at-requires-clause-within : goal.literals_at-requires-clause-within
literals_at-requires-clause-within c =
    let long : length c.args.self.now ≡ length c.deref-2.result.now = sym (ap length c.self.view_is) ∙ (length-pieces _ _ _ ∙ ap length (sym c.deref-2.ensures.value)) in
    omega (arith, c.requires, long)

pub returns : goal.returns
returns c = rw (← c.self.view_is) (rw (c.deref.ensures.value, c.deref-2.ensures.value) at c.literals_at.ensures)
