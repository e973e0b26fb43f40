use Rattle.std.proofs.Common.{◌<◌, ◌≤◌, arith, length, refl, ap}
use Rattle.theory.specs.Trails.{Entry, current_level}
use Rattle.cdcl.specs.Marks.{latest_from}
use Rattle.cdcl.proofs.Pending.{top_of, top-popped, rest-below}
use Rattle.cdcl.proofs.CurrentWalks.{IsWalkedSoFar-begin, top-inside, popped-at, IsWalkedSoFar-popped, IsWalkedSoFar-put_back, popped-closed, low-place, high-place, CanLookAt-so_far, IsWalkedSoFar-next, walked-set, walked-hints, none-closed}
use Rattle.cdcl.proofs.JoinedSets.{IsSet-empty}
use Rattle.cdcl.proofs.WalkLemmas.{Resolves-below}
use Rattle.cdcl.proofs.analysis.current_level.walk_current.Goals as goal

pub loop-place-init : goal.loop-place-init
loop-place-init c = record { walked = IsWalkedSoFar-begin c.args.kernel.now c.args.conflict c.args.marks.now c.args.hints.now.items c.requires.hints c.requires.set; met = λ met. met }

pub offset_bounds-trail-place : goal.offset_bounds-trail-place
offset_bounds-trail-place c =
    let inside = top-inside c.args.kernel.now c.args.conflict c.in-Some.place c.loop-place.marks _ _ c.loop-place.invariant.walked c.in-Some.ensures.taken (rest-below c.in-Some.place _ _ c.in-Some.ensures.taken c.in-Some.ensures.greatest) in
    let same = ap length c.trail-trail.ensures.trail in
    let small = c.trail-trail.type_inv.1 in
    omega arith

pub bounds-trail-place : goal.bounds-trail-place
bounds-trail-place c =
    let inside = top-inside c.args.kernel.now c.args.conflict c.in-Some.place c.loop-place.marks _ _ c.loop-place.invariant.walked c.in-Some.ensures.taken (rest-below c.in-Some.place _ _ c.in-Some.ensures.taken c.in-Some.ensures.greatest) in
    rw c.trail-trail.ensures.trail inside

pub returns-then-entry-level-clause-set : goal.returns-then-entry-level-clause-set
returns-then-entry-level-clause-set c =
    let k = c.args.kernel.now in
    let w = c.loop-place.invariant.walked in
    let popped = record c.loop-place.marks { pending = c.pop.new.self } in
    let last = record c.loop-place.marks { pending = c.push_far.new.self } in
    let greatest = rest-below c.in-Some.place _ _ c.in-Some.ensures.taken c.in-Some.ensures.greatest in
    let at = popped-at k c.args.conflict c.in-Some.place c.index-trail-place.result c.trail-trail.result.now c.loop-place.marks popped c.loop-place.hints.items w
    c.trail-trail.ensures.trail c.index-trail-place.is refl refl refl c.in-Some.ensures.taken greatest in
    let level = ap (λ (e : Entry). e.level) c.entry.view_is in
    let current = c.level-level.ensures in
    let test = c.if-entry-level.true in
    let low : c.index-trail-place.result.level < current_level k.trail = omega (arith, level, current, test) in
    let less = low-place k c.in-Some.place c.index-trail-place.result c.trail-trail.ensures.lawful c.requires.above at low in
    walked-set k c.args.conflict c.loop-place.marks last c.loop-place.hints.items w c.trail-trail.ensures.lawful c.requires.above
    (popped-closed k c.args.conflict c.in-Some.place c.index-trail-place.result c.trail-trail.result.now c.loop-place.marks popped c.loop-place.hints.items w
    c.trail-trail.ensures.trail c.index-trail-place.is refl refl refl c.in-Some.ensures.taken greatest less)
    (IsWalkedSoFar-put_back k c.args.conflict c.in-Some.place c.index-trail-place.result c.trail-trail.result.now c.loop-place.marks popped c.loop-place.hints.items w
    c.trail-trail.ensures.trail c.index-trail-place.is refl refl refl c.in-Some.ensures.taken greatest last refl refl refl c.in_ok-push_far.ensures)

pub returns-then-entry-level-clause-hints : goal.returns-then-entry-level-clause-hints
returns-then-entry-level-clause-hints c =
    let k = c.args.kernel.now in
    let w = c.loop-place.invariant.walked in
    let popped = record c.loop-place.marks { pending = c.pop.new.self } in
    let greatest = rest-below c.in-Some.place _ _ c.in-Some.ensures.taken c.in-Some.ensures.greatest in
    let at = popped-at k c.args.conflict c.in-Some.place c.index-trail-place.result c.trail-trail.result.now c.loop-place.marks popped c.loop-place.hints.items w
    c.trail-trail.ensures.trail c.index-trail-place.is refl refl refl c.in-Some.ensures.taken greatest in
    let level = ap (λ (e : Entry). e.level) c.entry.view_is in
    let current = c.level-level.ensures in
    let test = c.if-entry-level.true in
    let low : c.index-trail-place.result.level < current_level k.trail = omega (arith, level, current, test) in
    let less = low-place k c.in-Some.place c.index-trail-place.result c.trail-trail.ensures.lawful c.requires.above at low in
    walked-hints k c.args.conflict c.loop-place.marks c.loop-place.hints.items w c.trail-trail.ensures.lawful c.requires.above
    (popped-closed k c.args.conflict c.in-Some.place c.index-trail-place.result c.trail-trail.result.now c.loop-place.marks popped c.loop-place.hints.items w
    c.trail-trail.ensures.trail c.index-trail-place.is refl refl refl c.in-Some.ensures.taken greatest less)

pub look_at-requires-clause-marks : goal.look_at-requires-clause-marks
look_at-requires-clause-marks c =
    CanLookAt-so_far c.args.kernel.now c.args.conflict c.in-Some.place c.index-trail-place.result _ _ c.trail-trail.ensures.lawful c.trail-trail.ensures.over c.requires.few
    (IsWalkedSoFar-popped c.args.kernel.now c.args.conflict c.in-Some.place c.index-trail-place.result c.trail-trail.result.now c.loop-place.marks _ c.loop-place.hints.items c.loop-place.invariant.walked
    c.trail-trail.ensures.trail c.index-trail-place.is refl refl refl c.in-Some.ensures.taken
    (rest-below c.in-Some.place _ _ c.in-Some.ensures.taken c.in-Some.ensures.greatest))

pub loop-place-smaller : goal.loop-place-smaller
loop-place-smaller c =
    let looked_at =
    IsWalkedSoFar-popped c.args.kernel.now c.args.conflict c.in-Some.place c.index-trail-place.result c.trail-trail.result.now c.loop-place.marks
    (record c.loop-place.marks { pending = c.pop.new.self }) c.loop-place.hints.items c.loop-place.invariant.walked
    c.trail-trail.ensures.trail c.index-trail-place.is refl refl refl c.in-Some.ensures.taken
    (rest-below c.in-Some.place _ _ c.in-Some.ensures.taken c.in-Some.ensures.greatest) in
    let below : top_of c.look_at.new.marks.pending ≤ c.in-Some.place =
    Resolves-below _ _ looked_at.set c.in-Some.place _ _ c.look_at.new.marks (c.in_ok-look_at.ensures.set looked_at.set c.in-Some.place looked_at.at looked_at.is_open_there looked_at.is) in
    let first = top-popped c.in-Some.place c.loop-place.marks.pending _ c.in-Some.ensures.taken in
    omega arith

pub loop-place-preserved : goal.loop-place-preserved
loop-place-preserved c =
    let k = c.args.kernel.now in
    let looked_at =
    IsWalkedSoFar-popped k c.args.conflict c.in-Some.place c.index-trail-place.result c.trail-trail.result.now c.loop-place.marks
    (record c.loop-place.marks { pending = c.pop.new.self }) c.loop-place.hints.items c.loop-place.invariant.walked
    c.trail-trail.ensures.trail c.index-trail-place.is refl refl refl c.in-Some.ensures.taken
    (rest-below c.in-Some.place _ _ c.in-Some.ensures.taken c.in-Some.ensures.greatest) in
    let level = ap (λ (e : Entry). e.level) c.entry.view_is in
    let current = c.level-level.ensures in
    let test = c.if-entry-level.false in
    let high : ¬ (c.index-trail-place.result.level < current_level k.trail) = omega (arith, level, current, test) in
    record {
      walked = IsWalkedSoFar-next _ _ c.in-Some.place c.index-trail-place.result _ c.look_at.new.marks _ _ looked_at
          (high-place k c.in-Some.place c.index-trail-place.result c.trail-trail.ensures.lawful c.requires.above looked_at.at high)
          (c.in_ok-look_at.ensures.set looked_at.set c.in-Some.place looked_at.at looked_at.is_open_there looked_at.is);
      met = λ met. c.in_ok-look_at.ensures.met (c.loop-place.invariant.met met);
    }

pub returns-clause-set : goal.returns-clause-set
returns-clause-set c =
    let k = c.args.kernel.now in
    let w = c.loop-place.invariant.walked in
    let none = c.in_default.ensures.none in
    let closed = none-closed k w.set w.bound c.loop-place.marks none.0 w.is in
    IsSet-empty k _ (latest_from k.trail) c.loop-place.marks _ refl refl refl none.0 none.1
    (walked-set k c.args.conflict c.loop-place.marks c.loop-place.marks c.loop-place.hints.items w c.trail-trail.ensures.lawful c.requires.above closed w.is)

pub returns-clause-hints : goal.returns-clause-hints
returns-clause-hints c =
    let k = c.args.kernel.now in
    let w = c.loop-place.invariant.walked in
    walked-hints k c.args.conflict c.loop-place.marks c.loop-place.hints.items w c.trail-trail.ensures.lawful c.requires.above
    (none-closed k w.set w.bound c.loop-place.marks c.in_default.ensures.none.0 w.is)
