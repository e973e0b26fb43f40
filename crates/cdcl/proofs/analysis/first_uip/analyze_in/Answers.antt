use Rattle.std.proofs.Common.{◌∙◌, refl, ap}
use Rattle.theory.specs.Learning.{back_level}
use Rattle.cdcl.proofs.analysis.first_uip.analyze_in.Goals as goal

pub returns-clause-line : goal.returns-clause-line
returns-clause-line c =
    let clause = c.in_ok-take_up.ensures.clause _ 0 c.in_ok-resolve_conflict.ensures.set in
    let hints = c.take_up.ensures.hints ∙ c.in_ok-resolve_conflict.ensures.hints in
    rw (clause, hints) refl

pub returns-clause-level : goal.returns-clause-level
returns-clause-level c =
    let clause = c.in_ok-take_up.ensures.clause _ 0 c.in_ok-resolve_conflict.ensures.set in
    c.in_ok-take_up.ensures.level ∙ ap (back_level c.args.kernel.now.trail) clause
