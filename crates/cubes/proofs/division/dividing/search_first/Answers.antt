use Rattle.cdcl.specs.declared.search.focused.Stop.TheVariants.{Ended, Spent}
use Rattle.cubes.proofs.DividedSearches.{first-stops}
use Rattle.cubes.proofs.DividingLemmas.{spent-counts}
use Rattle.cubes.proofs.division.dividing.search_first.Goals as goal

pub returns-in-Ended-clause-says : goal.returns-in-Ended-clause-says
returns-in-Ended-clause-says g c F ready =
    first-stops F c.args.search.now.constants c.args.conflicts c.begin.new.self c.run_to.new.self (Ended c.in-Ended.outcome) (rw c.root-root.ensures at (c.in_ok-begin.ensures F ready)) (rw c.in-Ended.is at c.in_ok-outcome.ensures.stops)

pub returns-then-has_few_decisions-clause-says : goal.returns-then-has_few_decisions-clause-says
returns-then-has_few_decisions-clause-says g c F ready = (
  first-stops F c.args.search.now.constants c.args.conflicts c.begin.new.self c.run_to.new.self Spent (rw c.root-root.ensures at (c.in_ok-begin.ensures F ready)) (rw c.in-Spent.is at c.in_ok-outcome.ensures.stops),
  c.has_few_decisions.ensures.few c.if-has_few_decisions.true,
)

pub returns-clause-says : goal.returns-clause-says
returns-clause-says g c F ready = (
  first-stops F c.args.search.now.constants c.args.conflicts c.begin.new.self c.run_to.new.self Spent (rw c.root-root.ensures at (c.in_ok-begin.ensures F ready)) (rw c.in-Spent.is at c.in_ok-outcome.ensures.stops),
  c.has_few_decisions.ensures.many c.if-has_few_decisions.false,
)

pub has_few_decisions-requires : goal.has_few_decisions-requires
has_few_decisions-requires g c = spent-counts c.args.conflicts c.run_to.new.self (c.in_ok-outcome.ensures.spent c.in-Spent.is) c.requires.conflicts.1
