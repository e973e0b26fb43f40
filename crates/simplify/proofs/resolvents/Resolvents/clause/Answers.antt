use Rattle.std.proofs.Common.{◌≡◌, ap, sym, ◌∙◌, length, arith, slice_get}
use Rattle.theory.specs.Learning.{Line}
use Rattle.cnf.specs.Pieces.{pieces}
use Rattle.cnf.proofs.Pieces.{length-pieces}
use Rattle.simplify.proofs.PairLines.{length-pair_lines, pair_lines-at}
use Rattle.simplify.proofs.resolvents.Resolvents.clause.Goals as goal

pub literals_at-requires-clause-within : goal.literals_at-requires-clause-within
literals_at-requires-clause-within c =
    let own = c.self.inside in
    let same = length-pieces 0 own.literals.items own.ends.items in
    let long : length c.args.self.now ≡ length c.deref-2.result.now = sym (ap length c.self.view_is) ∙ (length-pair_lines _ own.pairs.items (same ∙ sym c.self.invariant.1) ∙ (same ∙ ap length (sym c.deref-2.ensures.value))) in
    omega (arith, c.requires, long)

pub returns : goal.returns
returns c l is =
    let own = c.self.inside in
    let at = pair_lines-at (pieces 0 own.literals.items own.ends.items) own.pairs.items c.args.place l (ap (λ ls. slice_get ls c.args.place) c.self.view_is ∙ is) in
    let found = rw (c.deref.ensures.value, c.deref-2.ensures.value) at c.literals_at.ensures in
    let one : at.0 ≡ c.literals_at.result.now = cc in
    ap (λ (m : Line). m.clause) at.4 ∙ one
