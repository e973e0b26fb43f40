use Rattle.std.proofs.Common.{◌∙◌}
use Rattle.trail.proofs.Values.{truth-value}
use Rattle.trail.proofs.trail.Trail.status.Goals as goal

pub returns-clause-truth : goal.returns-clause-truth
returns-clause-truth c =
    let read = rw c.deref.ensures.value at c.status_in.ensures in
    let t = read ∙ c.self.invariant.3.truth_at c.args.lit (rw (← c.self.view_is) at c.requires) in
    rw (← c.self.view_is) (truth-value c.self.inside.entries.items c.args.lit c.status_in.result t)
