use Rattle.theory.specs.Trails.{literals}
use Rattle.trail.specs.Tables.{value_of}
use Rattle.kernel.proofs.LastLiterals.{last-open}
use Rattle.kernel.proofs.TrailFacts.{distinct-consistent}
use Rattle.kernel.proofs.Visits.{not-false}
use Rattle.kernel.proofs.WatchChoice.{in-whole}
use Rattle.kernel.proofs.units.last_false.open_literal.Goals as goal

pub returns-then-not-is_falsified : goal.returns-then-not-is_falsified
returns-then-not-is_falsified c =
    last-open (literals c.args.trail.now.entries) c.args.clause.now c.lit-item.result c.requires.was_unit
    (in-whole c.args.clause.now c.loop-lit.lit-index c.lit-item.result c.lit-item.is c.loop-lit-test.true)
    (not-false (literals c.args.trail.now.entries) c.lit-item.result (value_of c.status.result) (distinct-consistent (literals c.args.trail.now.entries) c.status.ensures.ordered.distinct) c.status.ensures.truth (c.is_falsified.ensures.no c.if-not-is_falsified.true))
