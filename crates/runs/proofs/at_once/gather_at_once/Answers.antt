use Rattle.runs.proofs.at_once.gather_at_once.Goals as goal

pub returns-then-count-eq1-clause-says : goal.returns-then-count-eq1-clause-says
returns-then-count-eq1-clause-says g c = rw c.plan-plan.ensures at c.gather_at_once_by.ensures.says

pub returns-clause-says : goal.returns-clause-says
returns-clause-says g c = rw c.plan-plan.ensures at c.gather_at_once_by-2.ensures.says
