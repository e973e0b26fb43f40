use Rattle.spread.proofs.DividingLemmas.{IsTurned}
use Rattle.spread.proofs.breadth.put_in_order.Given as goal

-- so many cubes, none of them longer than the first one, came from the front behind the others
abbrev pub invariant-cubes : goal.invariant-cubes
invariant-cubes l = IsTurned l.count l.initial.queue.items l.queue.items l._moved
