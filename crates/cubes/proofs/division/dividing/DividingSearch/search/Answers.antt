use Rattle.cubes.proofs.DividedSearches.{search-runs}
use Rattle.cubes.proofs.division.dividing.DividingSearch.search.Goals as goal

pub returns-clause-runs : goal.returns-clause-runs
returns-clause-runs g c = search-runs c.args.cube.now c.args.budget c.args.self.now c.solve.result c.solve.ensures.runs
