use Rattle.std.proofs.Common.{◌≡◌}
use Rattle.cdcl_tests.proofs.searches.first_failed.Given as goal

-- the solver stays one over the formula's variables
abbrev pub invariant-turns : goal.invariant-turns
invariant-turns l = l.solver.formula.vars ≡ l.initial.solver.formula.vars
