use Rattle.theory.proofs.searching.PureVariables.{IsCube-pure_literals, IsOver-pure_literals}
use Rattle.cdcl.proofs.SearchedFormulas.{begun-ordered, begun-focused}
use Rattle.cdcl.proofs.api.plan.Search.units.Goals as goal

pub returns-in_ok-units-in-Ordered-clause-begun : goal.returns-in_ok-units-in-Ordered-clause-begun
returns-in_ok-units-in-Ordered-clause-begun c = begun-ordered c.args.formula.now c.args.self c.in_ok-units-in-Ordered.units.items c.in-Ordered.is c.in_ok-units-in-Ordered.ensures

pub returns-in_ok-units-in-Ordered-clause-cube : goal.returns-in_ok-units-in-Ordered-clause-cube
returns-in_ok-units-in-Ordered-clause-cube c = rw c.in_ok-units-in-Ordered.ensures (IsCube-pure_literals c.args.formula.now, IsOver-pure_literals c.args.formula.now)

pub returns-in-Focused-clause-begun : goal.returns-in-Focused-clause-begun
returns-in-Focused-clause-begun c = begun-focused c.args.formula.now c.args.self c.new.result.items c.in-Focused.is c.new.ensures.items
