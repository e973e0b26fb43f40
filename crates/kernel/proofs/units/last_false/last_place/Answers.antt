use Rattle.std.proofs.Common.{◌∙◌, ◌∷◌, [], ◌++◌, take, max, ap, sym}
use Rattle.std.proofs.lemmas.List.{take_more}
use Rattle.theory.specs.Propagation.{last_false}
use Rattle.kernel.proofs.LastFalse.{last_false-more, last_false-empty, max-is}
use Rattle.kernel.proofs.units.last_false.last_place.Goals as goal

pub loop-lit-init : goal.loop-lit-init
loop-lit-init c = sym (last_false-empty c.args.trail.now.entries)

pub loop-lit-preserved : goal.loop-lit-preserved
loop-lit-preserved c =
    let T = c.args.trail.now.entries in
    let front = take c.loop-lit.lit-index c.args.clause.now in
    let longer = take_more c.args.clause.now c.loop-lit.lit-index c.lit-item.result c.loop-lit-test.true ∙ ap (λ l. front ++ l ∷ []) (sym c.lit-item.is) in
    c.max-last.ensures ∙ max-is c.loop-lit.last c.false_place.result
    ∙ (λ i. max (c.loop-lit.invariant i) (c.false_place.ensures i))
    ∙ sym (ap (last_false T) longer ∙ last_false-more T front c.lit-item.result)
