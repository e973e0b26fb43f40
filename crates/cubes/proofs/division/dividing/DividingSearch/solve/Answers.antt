use Rattle.std.proofs.Common.{◌<◌, ◌^◌, length, ltb-true, pow_pos, sym, ◌∙◌, arith}
use Rattle.cdcl.proofs.FocusedSteps.{if_ok-map}
use Rattle.cubes.proofs.DividedSearches.{kept-then}
use Rattle.cubes.proofs.division.dividing.DividingSearch.solve.Goals as goal

pub returns-clause-runs : goal.returns-clause-runs
returns-clause-runs g c =
    if_ok-map c.solve_upper.result _ _ (λ o h F plan d is.
    let upper : 2 ^ length c.args.cube.now < plan.divide = rw d.divide (ltb-true (2 ^ length c.args.cube.now) c.args.self.now.divide (rw c.lits.ensures.lits at (sym c.is_upper.ensures ∙ c.if-not-is_upper.false))) in
    h F plan (c.in_ok-ask_once.ensures.kept F plan d) (c.in_ok-ask_once.ensures.known F plan d (let some = pow_pos (length c.args.cube.now) in omega (arith, some, upper))) upper is) c.solve_upper.ensures.runs

pub returns-clause-kept : goal.returns-clause-kept
returns-clause-kept g c = kept-then c.solve_upper.result c.args.self.now c.ask_once.new.self c.solve_upper.new.self c.in_ok-ask_once.ensures.kept c.solve_upper.ensures.kept
