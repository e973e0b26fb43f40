use Rattle.std.proofs.Common.{sym, length}
use Rattle.std.proofs.lemmas.Bool.{ltb-true}
use Rattle.std.specs.BinaryHeap.{heap_items}
use Rattle.kernel.proofs.UnitLemmas.{All-not_below, top-there, none-less}
use Rattle.kernel.proofs.units.units.has_below.Goals as goal

pub returns-in-Some-clause-below : goal.returns-in-Some-clause-below
returns-in-Some-clause-below c h = (c.in-Some.least.now.0, top-there (heap_items c.args.heap.now) c.in-Some.least.now (ltb-true 0 (length (heap_items c.args.heap.now)) (sym c.in-Some.ensures.item.0)) c.in-Some.ensures.lookup, ltb-true c.in-Some.least.now.0 c.args.number h)

pub returns-in-Some-clause-none : goal.returns-in-Some-clause-none
returns-in-Some-clause-none c h = none-less c.args.number c.in-Some.least.now.0 _ h (All-not_below _ _ (c.in-Some.ensures.greatest c.requires.heap))
