use Rattle.std.proofs.Common.{sym, ◌∙◌}
use Rattle.cubes.proofs.KnownLemmas.{keys-same, keys-own}
use Rattle.gathering.proofs.outcomes.is_same.Goals as goal

pub returns : goal.returns
returns c =
    let l = c.lits.ensures in
    let m = c.lits-2.ensures in (
      λ yes. sym l.lits ∙ keys-same c.lits.result.now c.lits-2.result.now (rw l.lits l.variables) (rw m.lits m.variables) (sym c.eq.ensures ∙ yes) ∙ m.lits,
      λ same. c.eq.ensures ∙ keys-own c.lits.result.now c.lits-2.result.now (l.lits ∙ same ∙ sym m.lits),
    )
