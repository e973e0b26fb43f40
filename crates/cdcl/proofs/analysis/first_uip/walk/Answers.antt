use Rattle.std.proofs.Common.{arith, ◌≤◌, length, refl, ap}
use Rattle.cdcl.proofs.Pending.{top_of, top-popped, rest-below}
use Rattle.cdcl.proofs.JoinedSets.{IsSet-empty}
use Rattle.cdcl.proofs.WalkLemmas.{top-inside, IsWalked-popped, CanLookAt-looked_at, Resolves-below, IsWalked-next, IsWalked-set, IsWalked-hints}
use Rattle.cdcl.proofs.analysis.first_uip.walk.Goals as goal

pub offset_bounds-trail-place : goal.offset_bounds-trail-place
offset_bounds-trail-place c =
    let inside = top-inside c.args.kernel.now c.args.conflict c.in-Some.place c.loop-place.marks _ _ c.loop-place.invariant.walked c.in-Some.ensures.taken (rest-below c.in-Some.place _ _ c.in-Some.ensures.taken c.in-Some.ensures.greatest) in
    let same = ap length c.trail-trail.ensures.trail in
    let small = c.trail-trail.type_inv.1 in
    omega arith

pub bounds-trail-place : goal.bounds-trail-place
bounds-trail-place c =
    let inside = top-inside c.args.kernel.now c.args.conflict c.in-Some.place c.loop-place.marks _ _ c.loop-place.invariant.walked c.in-Some.ensures.taken (rest-below c.in-Some.place _ _ c.in-Some.ensures.taken c.in-Some.ensures.greatest) in
    rw c.trail-trail.ensures.trail inside

pub look_at-requires-clause-marks : goal.look_at-requires-clause-marks
look_at-requires-clause-marks c =
    CanLookAt-looked_at c.args.kernel.now c.args.conflict c.in-Some.place c.index-trail-place.result _ _ c.trail-trail.ensures.lawful c.trail-trail.ensures.over c.requires.few
    (IsWalked-popped c.args.kernel.now c.args.conflict c.in-Some.place c.index-trail-place.result c.trail-trail.result.now c.loop-place.marks _ c.loop-place.hints.items c.loop-place.invariant.walked
    c.trail-trail.ensures.trail c.index-trail-place.is refl refl refl c.in-Some.ensures.taken
    (rest-below c.in-Some.place _ _ c.in-Some.ensures.taken c.in-Some.ensures.greatest))

pub loop-place-smaller : goal.loop-place-smaller
loop-place-smaller c =
    let looked_at =
    IsWalked-popped c.args.kernel.now c.args.conflict c.in-Some.place c.index-trail-place.result c.trail-trail.result.now c.loop-place.marks
    (record c.loop-place.marks { pending = c.pop.new.self }) c.loop-place.hints.items c.loop-place.invariant.walked
    c.trail-trail.ensures.trail c.index-trail-place.is refl refl refl c.in-Some.ensures.taken
    (rest-below c.in-Some.place _ _ c.in-Some.ensures.taken c.in-Some.ensures.greatest) in
    let below : top_of c.look_at.new.marks.pending ≤ c.in-Some.place =
    Resolves-below _ _ looked_at.set c.in-Some.place _ _ c.look_at.new.marks (c.in_ok-look_at.ensures.set looked_at.set c.in-Some.place looked_at.at looked_at.is_open_there looked_at.is) in
    let first = top-popped c.in-Some.place c.loop-place.marks.pending _ c.in-Some.ensures.taken in
    omega arith

pub loop-place-preserved : goal.loop-place-preserved
loop-place-preserved c =
    let looked_at =
    IsWalked-popped c.args.kernel.now c.args.conflict c.in-Some.place c.index-trail-place.result c.trail-trail.result.now c.loop-place.marks
    (record c.loop-place.marks { pending = c.pop.new.self }) c.loop-place.hints.items c.loop-place.invariant.walked
    c.trail-trail.ensures.trail c.index-trail-place.is refl refl refl c.in-Some.ensures.taken
    (rest-below c.in-Some.place _ _ c.in-Some.ensures.taken c.in-Some.ensures.greatest) in
    record {
      walked = IsWalked-next _ _ c.in-Some.place c.index-trail-place.result _ c.look_at.new.marks _ _ looked_at
          (c.in_ok-look_at.ensures.set looked_at.set c.in-Some.place looked_at.at looked_at.is_open_there looked_at.is);
      met = λ met. c.in_ok-look_at.ensures.met (c.loop-place.invariant.met met);
    }

pub returns-clause-set : goal.returns-clause-set
returns-clause-set c =
    let none = c.in_default.ensures.none in
    IsSet-empty _ _ 0 c.loop-place.marks _ refl refl refl none.0 none.1
    (IsWalked-set _ _ c.loop-place.marks c.loop-place.hints.items c.loop-place.invariant.walked none.0)

pub returns-clause-hints : goal.returns-clause-hints
returns-clause-hints c =
    IsWalked-hints _ _ c.loop-place.marks c.loop-place.hints.items c.loop-place.invariant.walked c.in_default.ensures.none.0

pub returns-clause-met : goal.returns-clause-met
returns-clause-met c met = c.loop-place.invariant.met met
