use Rattle.std.proofs.Common.{◌∙◌, sym}
use Rattle.theory.specs.Trails.{literals}
use Rattle.trail.specs.Tables.{value_of}
use Rattle.kernel.proofs.TrailFacts.{distinct-consistent}
use Rattle.kernel.proofs.Visits.{not-false}
use Rattle.kernel.proofs.Replacements.{turned}
use Rattle.kernel.proofs.watches.replacement.is_replacement.Goals as goal

pub returns-clause-yes : goal.returns-clause-yes
returns-clause-yes c found = (
  sym c.same.ensures ∙ turned c.same.result found,
  not-false (literals c.args.trail.now.entries) c.args.lit (value_of c.status.result) (distinct-consistent (literals c.args.trail.now.entries) c.status.ensures.ordered.distinct) c.status.ensures.truth (c.is_falsified.ensures.no c.if-is_falsified.false),
)
