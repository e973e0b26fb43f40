use Rattle.std.proofs.Common.{◌≡◌, ◌<◌, ◌+◌, ◌-◌, ◌^◌, if◌then◌else◌, arith}
use Rattle.cubes.proofs.PlaceLemmas.{place_in-more, shifted}
use Rattle.cubes.proofs.place.place_of.Goals as goal
use Rattle.cubes.proofs.place.place_of.Goals.{then-positive, else-positive}

pub loop-lit-preserved : goal.loop-lit-preserved
loop-lit-preserved c =
    let some : 0 < c.loop-lit.left = omega arith in
    let now : c.if-positive.place ≡ (if c.lit-item.result.positive then c.loop-lit.place + 2 ^ (c.loop-lit.left - 1) else c.loop-lit.place) =
    elim c.if-positive.branch [
      | then-positive w ↦ rw (← w.if-positive.ensures) (shifted c.loop-lit.place c.loop-lit.left c.if-positive.place some c.loop-lit.invariant.room w.place-is)
      | else-positive w ↦ rw (← w.if-positive.ensures) w.place-is
    ] in
    let more = place_in-more c.loop-lit.place c.if-positive.place c.loop-lit.left c.loop-lit.lit-index _ c.lits-lit-items.result.now c.lit-item.result some (omega arith) c.lit-item.is
    now c.loop-lit.invariant.rest c.loop-lit.invariant.room in
    record { few = omega arith; rest = more.0; room = more.1 }
