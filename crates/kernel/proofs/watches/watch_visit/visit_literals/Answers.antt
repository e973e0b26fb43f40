use Rattle.std.proofs.Common.{refl}
use Rattle.std.proofs.lemmas.List.Sorted.{IsPermutation-refl}
use Rattle.theory.specs.Trails.{literals}
use Rattle.kernel.proofs.Arranged.{front-last}
use Rattle.kernel.proofs.Beside.{beside-over}
use Rattle.kernel.proofs.watches.watch_visit.visit_literals.Goals as goal

pub status-status-requires-clause-over : goal.status-status-requires-clause-over
status-status-requires-clause-over c = beside-over c.args.truths.trail.now.vars (literals c.args.truths.trail.now.entries) c.args.gone c.args.lits.now c.beside-other.result c.requires.sees c.beside-other.ensures

pub replacement-requires-clause-front : goal.replacement-requires-clause-front
replacement-requires-clause-front c = front-last c.args.truths.trail.now.vars (literals c.args.truths.trail.now.entries) c.args.gone c.args.lits.now c.beside-other.result c.requires.sees c.beside-other.ensures

pub returns-in-None : goal.returns-in-None
returns-in-None c = record {
  visit = (c.beside-other.ensures, c.status-status.ensures, c.is_satisfied.ensures.no c.if-is_satisfied.false, c.in-None.ensures.none, refl);
  permutes = IsPermutation-refl c.args.lits.now;
}
