use Rattle.std.proofs.Common.{◌∙◌, Bool, List, ap, slice_set, false}
use Rattle.cdcl.proofs.ListsInPlace.{changed-next, changed-all}
use Rattle.cdcl.proofs.search.saved.fill.Goals as goal

pub loop-at-preserved : goal.loop-at-preserved
loop-at-preserved c =
    ap (λ (xs : List Bool). slice_set xs c.loop-at.at c.args.value) c.loop-at.invariant ∙ changed-next (λ (v : Bool). c.args.value) c.args.values.now c.loop-at.at false c.loop-at-test.true

pub returns : goal.returns
returns c = c.loop-at.invariant ∙ changed-all (λ (v : Bool). c.args.value) c.args.values.now c.loop-at.at c.loop-at-test.false
