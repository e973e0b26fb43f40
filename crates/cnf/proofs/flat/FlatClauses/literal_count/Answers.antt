use Rattle.std.proofs.Common.{ap, sym, ◌∙◌, length, sum_by}
use Rattle.cnf.proofs.Pieces.{sum-pieces}
use Rattle.cnf.proofs.flat.FlatClauses.literal_count.Goals as goal

pub returns : goal.returns
returns c = c.len.ensures ∙ (c.self.inside.literals.ok.0 ∙ (sym (sum-pieces c.self.inside.literals.items c.self.inside.ends.items c.self.invariant) ∙ ap (sum_by length) c.self.view_is))
