use Rattle.cdcl.proofs.NumberSets.{StandOnce-flagged, inside-flagged, once-few}
use Rattle.cdcl.proofs.analysis.numbers.Numbers.list.Goals as goal

pub returns-clause-once : goal.returns-clause-once
returns-clause-once c = rw c.deref.ensures.value (StandOnce-flagged c.self.inside.flags.items c.self.inside.list.items c.self.invariant)

pub returns-clause-inside : goal.returns-clause-inside
returns-clause-inside c k d l = rw (c.deref.ensures.value, ← c.self.view_is) (inside-flagged c.self.inside.flags.items c.self.inside.list.items c.self.invariant k d (rw c.deref.ensures.value at l))

pub returns-clause-few : goal.returns-clause-few
returns-clause-few c =
    let flags = c.self.inside.flags.items in
    let list = c.self.inside.list.items in
    rw (c.deref.ensures.value, ← c.self.view_is) (once-few list _ (StandOnce-flagged flags list c.self.invariant) (inside-flagged flags list c.self.invariant))
