use Rattle.std.proofs.Common.{◌+◌, refl, arith, take}
use Rattle.lines.proofs.PlacedLemmas.{one-placed, number-placed}
use Rattle.lines.proofs.placed.place_number.Goals as goal

pub returns-then-number-lt128-clause-number : goal.returns-then-number-lt128-clause-number
returns-then-number-lt128-clause-number c = one-placed c.args.bytes.now c.args.at (c.args.at + 1) c.args.number refl (omega (arith, c.requires.room)) c.if-number-lt128.true

pub place_high-end-requires-clause-room : goal.place_high-end-requires-clause-room
place_high-end-requires-clause-room c = (9, omega (arith, c.ranges.number.fits), omega (arith, c.requires.room))

pub bounds-bytes-end : goal.bounds-bytes-end
bounds-bytes-end c = omega (arith, c.place_high-end.ensures.within 9 (omega (arith, c.ranges.number.fits)), c.requires.room, c.place_high-end.auto.bytes)

pub overflow_add-result-2 : goal.overflow_add-result-2
overflow_add-result-2 c = record { fits = omega (arith, c.place_high-end.ensures.within 9 (omega (arith, c.ranges.number.fits)), c.requires.room, c.place_high-end.auto.bytes) }

pub returns-clause-within : goal.returns-clause-within
returns-clause-within c = omega (arith, c.place_high-end.ensures.within 9 (omega (arith, c.ranges.number.fits)))

pub returns-clause-small : goal.returns-clause-small
returns-clause-small c = λ small. omega (arith, c.place_high-end.ensures.within 4 (omega (arith, small)))

pub returns-clause-number : goal.returns-clause-number
returns-clause-number c =
    let end = c.place_high-end.result in
    number-placed (take c.args.at c.args.bytes.now) c.place_high-end.new.bytes end (end + 1) c.args.number refl
    (omega (arith, c.place_high-end.ensures.within 9 (omega (arith, c.ranges.number.fits)), c.requires.room, c.place_high-end.auto.bytes))
    c.ranges.number.fits (omega (arith, c.if-number-lt128.false)) c.place_high-end.ensures.value
