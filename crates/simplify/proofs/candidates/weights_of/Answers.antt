use Rattle.std.proofs.Common.{◌∷◌, [], ◌++◌, sym, ◌∙◌}
use Rattle.simplify.specs.Entries.{weight_in}
use Rattle.simplify.proofs.Lightest.{variables-more}
use Rattle.simplify.proofs.candidates.weights_of.Goals as goal

pub loop-place-preserved : goal.loop-place-preserved
loop-place-preserved c =
    c.in_ok-push.ensures.items ∙ ((λ i. c.loop-place.invariant i ++ c.weight.ensures i ∷ []) ∙ sym (variables-more (weight_in c.args.database.now.entries) c.loop-place.place))
