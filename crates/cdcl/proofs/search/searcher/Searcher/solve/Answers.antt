use Rattle.cdcl.proofs.SearcherLemmas.{runs-ordered, says-ordered, runs-by_focused, says-focused}
use Rattle.cdcl.proofs.search.searcher.Searcher.solve.Goals as goal

pub returns-in_ok-begin-in-Ordered-clause-runs : goal.returns-in_ok-begin-in-Ordered-clause-runs
returns-in_ok-begin-in-Ordered-clause-runs g c =
    rw c.in-Ordered.is (runs-ordered c.args.cube.now c.args.budget c.in-Ordered.search c.begin.new.self c.run.result c.in_ok-begin-in-Ordered.ensures c.run.ensures.runs)

pub returns-in_ok-begin-in-Ordered-clause-says : goal.returns-in_ok-begin-in-Ordered-clause-says
returns-in_ok-begin-in-Ordered-clause-says g c =
    rw c.in-Ordered.is (says-ordered c.args.cube.now c.args.budget c.in-Ordered.search c.begin.new.self c.run.result c.in_ok-begin-in-Ordered.ensures c.run.ensures.runs)

pub returns-in-Focused-clause-runs : goal.returns-in-Focused-clause-runs
returns-in-Focused-clause-runs g c = rw c.in-Focused.is (runs-by_focused c.args.cube.now c.args.budget c.in-Focused.search c.solve.result c.solve.ensures.runs)

pub returns-in-Focused-clause-says : goal.returns-in-Focused-clause-says
returns-in-Focused-clause-says g c =
    let s = c.in-Focused.search in
    rw c.in-Focused.is (says-focused c.args.cube.now c.args.budget s c.solve.result c.lits-lits.ensures.cube c.trail-trail.ensures.clauses_over
    (runs-by_focused c.args.cube.now c.args.budget s c.solve.result c.solve.ensures.runs))
