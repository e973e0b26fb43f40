use Rattle.std.proofs.Common.{◌∙◌, Bool, List, ap, slice_set, get_or, false, not}
use Rattle.cdcl.proofs.ListsInPlace.{changed-before, changed-read, changed-next, changed-all}
use Rattle.cdcl.proofs.search.saved.flip.Goals as goal

pub loop-at-preserved : goal.loop-at-preserved
loop-at-preserved c =
    let xs = c.args.values.now in
    let at = c.loop-at.at in
    ap (λ (ys : List Bool). slice_set ys at (not (get_or ys at false))) c.loop-at.invariant
    ∙ (ap (λ b. slice_set (changed-before not at xs) at (not b)) (changed-read not xs at false c.loop-at-test.true) ∙ changed-next not xs at false c.loop-at-test.true)

pub returns : goal.returns
returns c = c.loop-at.invariant ∙ changed-all not c.args.values.now c.loop-at.at c.loop-at-test.false
