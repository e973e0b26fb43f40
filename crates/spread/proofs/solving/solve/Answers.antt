use Rattle.std.proofs.Common.{List, refl, ap, ◌∙◌}
use Rattle.theory.specs.Literals.{Literal}
use Rattle.theory.specs.Beginnings.{begun_by}
use Rattle.cdcl.specs.Outcome.{outcome_of}
use Rattle.gathering.specs.Facts.{claim_of}
use Rattle.spread.proofs.BreadthLemmas.{said-of}
use Rattle.spread.proofs.solving.solve.Goals as goal

pub solve-outcome-requires : goal.solve-outcome-requires
solve-outcome-requires g c = (begun_by c.args.plan.search c.args.formula.now, c.requires.solver, rw (c.vars.ensures.vars, c.lits.ensures.lits) at (c.if-not-is_over.ensures.over refl))

pub returns-clause-solver : goal.returns-clause-solver
returns-clause-solver g c = c.in_ok-outcome.ensures.kept (begun_by c.args.plan.search c.args.formula.now) c.requires.solver

pub returns-clause-said : goal.returns-clause-said
returns-clause-said g c =
    let G = begun_by c.args.plan.search c.args.formula.now in
    let over = rw (c.vars.ensures.vars, c.lits.ensures.lits) at (c.if-not-is_over.ensures.over refl) in
    let done = c.in_ok-outcome.ensures in
    said-of c.args.formula.now c.args.plan c.args.cube (outcome_of c.in_ok-outcome.field-0) c.fact_of.result (done.runs G c.requires.solver) (done.says G c.requires.solver over) (c.fact_of.ensures ∙ ap (λ (Q : List Literal). record { cube = Q; claim = claim_of (outcome_of c.in_ok-outcome.field-0) }) c.cube.view_is)
