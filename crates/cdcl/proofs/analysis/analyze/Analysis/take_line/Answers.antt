use Rattle.std.proofs.Common.{◌∙◌, refl, ap}
use Rattle.theory.specs.Learning.{back_level}
use Rattle.cdcl.proofs.LessonLemmas.{IsSet-plain}
use Rattle.cdcl.proofs.analysis.analyze.Analysis.take_line.Goals as goal

pub take_up-requires-clause-set : goal.take_up-requires-clause-set
take_up-requires-clause-set c = (_, 0, IsSet-plain _ _ 0 _ c.in_ok-self.ensures.done c.in_ok-self.ensures.set)

pub returns-clause-line : goal.returns-clause-line
returns-clause-line c =
    let clause = c.in_ok-take_up.ensures.clause _ 0 (IsSet-plain _ _ 0 _ c.in_ok-self.ensures.done c.in_ok-self.ensures.set) in
    let hints = c.take_up.ensures.hints ∙ c.in_ok-self.ensures.hints in
    rw (clause, hints) refl

pub returns-clause-level : goal.returns-clause-level
returns-clause-level c =
    let clause = c.in_ok-take_up.ensures.clause _ 0 (IsSet-plain _ _ 0 _ c.in_ok-self.ensures.done c.in_ok-self.ensures.set) in
    c.in_ok-take_up.ensures.level ∙ ap (back_level c.args.kernel.now.trail) clause
