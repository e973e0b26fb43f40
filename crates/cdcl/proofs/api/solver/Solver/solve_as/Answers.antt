use Rattle.std.proofs.Common.{◌≡◌, ap, length, subst, sym}
use Rattle.theory.specs.Truth.{IsOver}
use Rattle.theory.specs.Runs.{cube_budget}
use Rattle.theory.specs.Results.{OutcomeSays}
use Rattle.cdcl.specs.Outcome.{outcome_of}
use Rattle.theory.specs.Beginnings.{begun_by}
use Rattle.cdcl.specs.Solving.{Solving}
use Rattle.cdcl.proofs.api.solver.Solver.solve_as.Goals as goal

pub solve-requires-clause-ready : goal.solve-requires-clause-ready
solve-requires-clause-ready g c = (
  begun_by c.self.inside.plan.search c.self.inside.formula.value,
  c.self.inside.plan,
  c.self.invariant c.if-self.false,
  subst (λ (s : Solving). IsOver s.formula.vars c.args.cube.now) (sym c.self.view_is) c.requires.over,
  c.budget_of-conflicts.ensures.same c.args.cube.now (ap length (sym c.lits.ensures.lits)),
)

pub invariant_of-self-2 : goal.invariant_of-self-2
invariant_of-self-2 g c e = c.in_ok-found.ensures.ready (begun_by c.self.inside.plan.search c.self.inside.formula.value) c.self.inside.plan (c.self.invariant c.if-self.false)

pub returns-clause-says : goal.returns-clause-says
returns-clause-says g c =
    let Q = c.args.cube.now in
    let conflicts : c.budget_of-conflicts.result ≡ cube_budget c.self.inside.plan Q
    = c.budget_of-conflicts.ensures.same Q (ap length (sym c.lits.ensures.lits)) in
    let over = subst (λ (s : Solving). IsOver s.formula.vars Q) (sym c.self.view_is) c.requires.over in
    rw c.in_ok-outcome.ensures (subst (λ (s : Solving). OutcomeSays s.plan.search s.formula Q (outcome_of c.in_ok-found.found)) c.self.view_is
    (c.in_ok-found.ensures.says (begun_by c.self.inside.plan.search c.self.inside.formula.value) c.self.inside.plan (c.self.invariant c.if-self.false) conflicts over))
