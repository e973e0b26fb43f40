use Rattle.std.proofs.Common.{◌≡◌, ◌++◌, length, min, map, codes, arith, ap, ◌∙◌}
use Rattle.std.proofs.lemmas.List.{length-take}
use Rattle.spread.specs.Models.{sign}
use Rattle.spread.proofs.HandLemmas.{taken-at-most}
use Rattle.spread.proofs.notes.name_of.Goals as goal

pub returns : goal.returns
returns c =
    let Q = c.args.cube.now in
    let at = c.loop-lit.lit-index in
    let count = c.min-count.ensures in
    let low = c.loop-lit-test.false in
    let high = c.loop-lit.auto.lit-index-end in
    let long = ap length c.lits-lits.ensures.lits in
    let taken = length-take c.min-count.result c.lits-lits.result.now in
    let end : at ≡ min (length Q) 200 = omega arith in
    c.loop-lit.invariant ∙ ap (λ Ls. codes "m" ++ map sign Ls) (taken-at-most Q 200 at end)
