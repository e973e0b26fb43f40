use Rattle.cdcl.specs.Plans.{constants_from, search_from}
use Rattle.cnf.specs.Limits.{limits_of}
use Rattle.join.specs.Before.{before_left}
use Rattle.join.specs.Walking.{lines_left}
use Rattle.strategies.proofs.DecidedTrees.{search-is}
use Rattle.runs.proofs.TextLemmas.{decided-checked, result-texts}
use Rattle.runs.proofs.alone.output_of.Goals as goal

-- what the strategy came to is a checked result of what is searched
pub of-requires : goal.of-requires
of-requires c =
    let same = c.formula-searched.ensures in
    let plan = c.args.decided.plan in
    let is = search-is c.search-search.result (constants_from plan.search) plan.search c.search-search.ensures in
    rw (same, is) (rw c.in_ok-before.ensures.formula (decided-checked c.args.formula.now c.args.strategy (search_from plan.search) c.args.decided.begun c.args.decided.tree (rw (same, c.in_ok-before.ensures.formula) at c.vars-searched_vars.ensures.within.formula) c.requires.result))

pub returns-clause-texts : goal.returns-clause-texts
returns-clause-texts c =
    let plan = c.args.decided.plan in
    let is = search-is c.search-search.result (constants_from plan.search) plan.search c.search-search.ensures in
    result-texts (limits_of c.args.limits) c.args.formula.now c.args.strategy (search_from plan.search) c.args.decided.begun c.args.decided.tree _ (before_left c.in_ok-before.before) (lines_left c.in_ok-lines.lines) _ c.vars-vars.ensures.within c.requires.result c.requires.says c.in_ok-verdict.ensures
    c.in_ok-before.ensures.satisfiable c.in_ok-before.ensures.unsatisfiable (rw (c.formula-searched.ensures, c.in_ok-before.ensures.formula, is) at c.in_ok-lines.ensures.steps)
