use Rattle.std.proofs.Common.{ap, sym, ◌∙◌, length}
use Rattle.cnf.proofs.Pieces.{length-pieces}
use Rattle.kernel.proofs.Shown.{length-shown}
use Rattle.kernel.proofs.clauses.clauses.Clauses.len.Goals as goal

pub returns : goal.returns
returns c = c.len.ensures ∙ (c.self.inside.ends.ok.0 ∙ (sym (length-shown c.self.inside.first _ ∙ length-pieces _ _ _) ∙ ap length c.self.view_is))
