use Rattle.trail.proofs.trail.Trail.truth.Goals as goal

pub returns-clause-truth : goal.returns-clause-truth
returns-clause-truth c = rw c.value.ensures c.status.ensures.truth
