use Rattle.std.proofs.Common.{ap, sym, ◌∙◌, length}
use Rattle.cnf.proofs.Pieces.{length-pieces}
use Rattle.packs.proofs.replay.line_clauses.LineClauses.len.Goals as goal

pub returns : goal.returns
returns c = c.len.ensures ∙ (c.self.inside.ends.ok.0 ∙ (sym (length-pieces _ _ _) ∙ ap length c.self.view_is))
