use Rattle.std.proofs.Common.{[], ◌∷◌, ◌++◌}
use Rattle.std.proofs.lemmas.List.Elements.{All-push, All-same}
use Rattle.runs.specs.Parts.{IsIdle}
use Rattle.runs.proofs.by_hands.parts_for.Goals as goal

pub loop-hand-preserved : goal.loop-hand-preserved
loop-hand-preserved c =
    let parts = c.loop-hand.parts.items in
    let part = c.in_ok-part_of.field-0 in
    All-same IsIdle c.push.new.self.items (parts ++ part ∷ []) c.in_ok-push.ensures.items (All-push IsIdle parts part c.loop-hand.invariant c.in_ok-part_of.ensures)
