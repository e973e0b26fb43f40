use Rattle.std.proofs.Common.{◌≡◌, ap, sym, ◌∙◌, length, arith, slice_get, unwrap_or, [], ◌∷◌}
use Rattle.std.proofs.lemmas.Option.{unwrap_or-slice_get}
use Rattle.theory.specs.Learning.{Line}
use Rattle.cnf.specs.Pieces.{pieces}
use Rattle.cnf.proofs.Pieces.{length-pieces}
use Rattle.simplify.specs.declared.resolvents.Pair.{Pair}
use Rattle.simplify.proofs.PairLines.{length-pair_lines, pair_lines-at}
use Rattle.simplify.proofs.resolvents.Resolvents.pair.Goals as goal

pub index-requires : goal.index-requires
index-requires c =
    let own = c.self.inside in
    let same = length-pieces 0 own.literals.items own.ends.items in
    let long = sym (ap length c.self.view_is) ∙ (length-pair_lines _ own.pairs.items (same ∙ sym c.self.invariant.1) ∙ (same ∙ sym c.self.invariant.1)) in
    omega (arith, c.requires, long, own.pairs.ok.0)

pub returns : goal.returns
returns c l is =
    let own = c.self.inside in
    let at = pair_lines-at (pieces 0 own.literals.items own.ends.items) own.pairs.items c.args.place l (ap (λ ls. slice_get ls c.args.place) c.self.view_is ∙ is) in
    let r = c.index.result.now in
    let one : r ≡ at.1 = c.index.ensures ∙ (sym (unwrap_or-slice_get own.pairs.items c.args.place r) ∙ ap (λ o. unwrap_or o r) at.3) in
    (ap (λ (m : Line). m.hints) at.4 ∙ ap (λ (p : Pair). p.positive ∷ p.negative ∷ []) (sym one), ap (λ (m : Line). m.forgets) at.4)
