use Rattle.std.proofs.Common.{ap, sym, ◌∙◌, length}
use Rattle.cnf.proofs.Pieces.{length-pieces}
use Rattle.simplify.proofs.PairLines.{length-pair_lines}
use Rattle.simplify.proofs.resolvents.Resolvents.len.Goals as goal

pub returns : goal.returns
returns c =
    let own = c.self.inside in
    let same = length-pieces 0 own.literals.items own.ends.items in
    c.len.ensures ∙ (own.ends.ok.0 ∙ (sym same ∙ (sym (length-pair_lines _ own.pairs.items (same ∙ sym c.self.invariant.1)) ∙ ap length c.self.view_is)))
