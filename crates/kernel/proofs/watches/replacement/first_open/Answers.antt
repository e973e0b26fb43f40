use Rattle.std.proofs.Common.{sym}
use Rattle.theory.specs.Trails.{literals}
use Rattle.trail.specs.Tables.{value_of}
use Rattle.kernel.proofs.TrailFacts.{distinct-consistent}
use Rattle.kernel.proofs.Visits.{not-false}
use Rattle.kernel.proofs.watches.replacement.first_open.Goals as goal

pub returns-then-not-is_falsified-clause-some : goal.returns-then-not-is_falsified-clause-some
returns-then-not-is_falsified-clause-some c = record {
  lit = c.index-clause-place.result;
  at = (c.places.invariant.1, sym c.index-clause-place.is);
  behind = c.places.invariant.0;
  not_false = not-false (literals c.args.truths.trail.now.entries) c.index-clause-place.result (value_of c.status.result) (distinct-consistent (literals c.args.truths.trail.now.entries) c.requires.table.ordered.distinct) c.status.ensures (c.is_falsified.ensures.no c.if-not-is_falsified.true);
  before = c.places.invariant.2;
}
