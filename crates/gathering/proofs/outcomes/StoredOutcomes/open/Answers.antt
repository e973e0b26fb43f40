use Rattle.theory.specs.Beginnings.{begun_by}
use Rattle.gathering.proofs.outcomes.StoredOutcomes.open.Goals as goal

pub returns-clause-gives : goal.returns-clause-gives
returns-clause-gives g c = record { checker = c.in_ok-open_checker.ensures; solver = c.none.ensures (begun_by c.args.plan.search c.args.formula.now) c.args.plan tt }
