use Rattle.theory.specs.Trails.{literals}
use Rattle.kernel.specs.Visiting.{IsLast}
use Rattle.kernel.specs.Seeing.{IsFound}
use Rattle.kernel.proofs.Replacements.{found-behind, found-before, last-parts, some-weaker, none-weaker}
use Rattle.std.proofs.Common.{◌≤◌, take}
use Rattle.kernel.proofs.watches.replacement.replacement_from.Goals as goal

pub returns-in-Some-clause-some : goal.returns-in-Some-clause-some
returns-in-Some-clause-some c = found-behind (literals c.args.trail.now.entries) c.args.clause.now c.args.start c.args.except c.in-Some.place c.in-Some.ensures.some.1

pub returns-in-None-clause-some : goal.returns-in-None-clause-some
returns-in-None-clause-some c =
    some-weaker (λ place. (0 ≤ place) × IsFound (literals c.args.trail.now.entries) (take c.args.start c.args.clause.now) c.args.except place) (IsFound (literals c.args.trail.now.entries) c.args.clause.now c.args.except)
    (λ place found. found-before (literals c.args.trail.now.entries) c.args.clause.now c.args.start c.args.except place c.requires.start found.1) c.next_replacement-in-None.result c.next_replacement-in-None.ensures.some

pub returns-in-None-clause-none : goal.returns-in-None-clause-none
returns-in-None-clause-none c =
    none-weaker (IsLast (literals c.args.trail.now.entries) (take c.args.start c.args.clause.now) c.args.except) (IsLast (literals c.args.trail.now.entries) c.args.clause.now c.args.except)
    (λ before. last-parts (literals c.args.trail.now.entries) c.args.clause.now c.args.start c.args.except c.in-None.ensures.none before) c.next_replacement-in-None.result c.next_replacement-in-None.ensures.none
