use Rattle.std.proofs.Common.{ℕ, zero, suc, ◌+◌, ◌^◌, ◌<◌, ◌≤◌, refl, arith, length, take}
use Rattle.lines.proofs.PlacedLemmas.{one-begun, more-begun, fewer-bytes}
use Rattle.lines.proofs.placed.+place_high.Goals as goal

pub returns-then-number-lt128-clause-value : goal.returns-then-number-lt128-clause-value
returns-then-number-lt128-clause-value t c =
    let room = c.requires.room in
    one-begun c.args.bytes.now c.args.at (c.args.at + 1) c.args.number refl (inside room.0 room.1 room.2) c.if-number-lt128.true c.requires.some
  where
    inside : (k : ℕ) → c.args.number < 128 ^ k → c.args.at + k ≤ length c.args.bytes.now → c.args.at < length c.args.bytes.now
    inside zero less room = absurd (omega (arith, less, c.requires.some))
    inside (suc k) less room = omega (arith, room)

pub bounds-bytes-end : goal.bounds-bytes-end
bounds-bytes-end t c =
    let room = c.requires.room in
    let less = fewer-bytes c.args.number room.0 room.1 (omega (arith, c.if-number-lt128.false)) in
    omega (arith, c.place_high-end.ensures.within less.0 less.2, less.1, room.2, c.place_high-end.auto.bytes)

pub returns-clause-within : goal.returns-clause-within
returns-clause-within t c = λ k below.
    let less = fewer-bytes c.args.number k below (omega (arith, c.if-number-lt128.false)) in
    omega (arith, c.place_high-end.ensures.within less.0 less.2, less.1)

pub returns-clause-value : goal.returns-clause-value
returns-clause-value t c =
    let room = c.requires.room in
    let less = fewer-bytes c.args.number room.0 room.1 (omega (arith, c.if-number-lt128.false)) in
    let end = c.place_high-end.result in
    more-begun (take c.args.at c.args.bytes.now) c.place_high-end.new.bytes end (end + 1) c.args.number refl
    (omega (arith, c.place_high-end.ensures.within less.0 less.2, less.1, room.2, c.place_high-end.auto.bytes))
    c.ranges.number.fits (omega (arith, c.if-number-lt128.false)) c.place_high-end.ensures.value
