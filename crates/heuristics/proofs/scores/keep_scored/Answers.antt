use Rattle.std.proofs.Common.{◌≡◌, ◌<◌, length, slice_index, arith}
use Rattle.std.proofs.lemmas.List.{get_or_read}
use Rattle.heuristics.proofs.KeptGains.{AreSifted-scored, AreSifted-none}
use Rattle.heuristics.proofs.scores.keep_scored.Goals as goal
use Rattle.heuristics.proofs.scores.keep_scored.Goals.{then-scores-variable-gt0, else-scores-variable-gt0}

pub loop-place-preserved : goal.loop-place-preserved
loop-place-preserved c =
    let i = c.loop-place.invariant in
    let k = c.loop-place.place in
    let G = c.loop-place.gained.items in
    let long = i.filtered.long in
    let less : k < length G = omega arith in
    let read : c.index-variable.result.now ≡ slice_index G k = get_or_read G k c.index-variable.result.now less c.index-variable.ensures 0 in
    elim c.if-scores-variable-gt0.branch [
      | then-scores-variable-gt0 w ↦ rw (w.gained-is, w.kept-is) (AreSifted-scored _ _ G _ k _ less read w.if-scores-variable-gt0.true i)
      | else-scores-variable-gt0 w ↦ rw (w.gained-is, w.kept-is) (AreSifted-none _ _ G _ k _ less read w.if-scores-variable-gt0.false i)
    ]
