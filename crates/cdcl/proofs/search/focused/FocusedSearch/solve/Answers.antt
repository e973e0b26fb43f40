use Rattle.cdcl.proofs.SearcherLemmas.{runs-focused}
use Rattle.cdcl.proofs.search.focused.FocusedSearch.solve.Goals as goal

pub returns-clause-runs : goal.returns-clause-runs
returns-clause-runs g c = runs-focused c.args.cube.now c.args.budget _ c.args.self.now c.begin.new.self c.run.result c.in_ok-begin.ensures c.run.ensures.runs
