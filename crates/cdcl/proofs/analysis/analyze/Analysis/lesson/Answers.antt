use Rattle.std.proofs.Common.{ap}
use Rattle.theory.specs.Learning.{Line}
use Rattle.cdcl.proofs.LessonLemmas.{line-false}
use Rattle.cdcl.proofs.analysis.analyze.Analysis.lesson.Goals as goal

pub see_reasons-requires-clause-false_clause : goal.see_reasons-requires-clause-false_clause
see_reasons-requires-clause-false_clause c =
    rw (c.deref.ensures.value, ap (λ (line : Line). line.clause) c.in_ok-take_line.ensures.line) (line-false c.args.kernel.now c.args.conflict c.trail-trail.ensures.lawful c.requires.conflict)
