use Rattle.std.proofs.Common.{length, ap, ◌∙◌}
use Rattle.std.proofs.lemmas.List.{length-map}
use Rattle.kernel.specs.EntryLists.{entries_of}
use Rattle.kernel.proofs.Restarting.{empty-watching, all-empty}
use Rattle.kernel.proofs.propagator.Propagator.with_room.Goals as goal

pub returns-clause-watching : goal.returns-clause-watching
returns-clause-watching c V long =
    let lists = c.in_ok-with_room-2.field-0 in
    rw (c.in_ok-with_room.ensures.1, c.in_ok-with_room-3.ensures)
    (empty-watching V _ (length-map lists entries_of ∙ (c.in_ok-with_room-2.ensures.long ∙ (ap length c.deref.ensures.value ∙ long))) (all-empty entries_of lists c.in_ok-with_room-2.ensures.empty))
