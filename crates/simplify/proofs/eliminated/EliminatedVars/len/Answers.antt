use Rattle.std.proofs.Common.{ap, sym, ◌∙◌, length}
use Rattle.cnf.proofs.Pieces.{length-pieces}
use Rattle.simplify.proofs.EliminatedRows.{length-eliminated}
use Rattle.simplify.proofs.eliminated.EliminatedVars.len.Goals as goal

pub returns : goal.returns
returns c =
    let own = c.self.inside in
    c.len.ensures ∙ (own.vars.ok.0 ∙ (sym (length-eliminated own.vars.items _ (c.self.invariant.2 ∙ sym (length-pieces 0 _ own.clause_ends.items))) ∙ ap length c.self.view_is))
