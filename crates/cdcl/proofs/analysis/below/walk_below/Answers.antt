use Rattle.std.proofs.Common.{arith, ◌≤◌, length, refl, ap}
use Rattle.cdcl.proofs.Pending.{top_of, top-popped, rest-below}
use Rattle.cdcl.proofs.JoinedSets.{IsSet-empty}
use Rattle.cdcl.proofs.WalkLemmas.{top-inside, IsWalked-popped, popped-set, Resolves-below, IsWalked-set, IsWalked-hints}
use Rattle.cdcl.proofs.BelowLemmas.{IsBelow-begin, below-lower, below-settled, IsBelow-next}
use Rattle.cdcl.proofs.analysis.below.walk_below.Goals as goal

pub loop-place-init : goal.loop-place-init
loop-place-init c = record { below = IsBelow-begin c.args.kernel.now c.args.conflict c.args.marks.now c.args.hints.now.items c.trail-trail.ensures.lawful c.requires.above c.requires.set c.requires.hints }

pub offset_bounds-trail-place : goal.offset_bounds-trail-place
offset_bounds-trail-place c =
    let inside = top-inside c.args.kernel.now c.args.conflict c.in-Some.place c.loop-place.marks _ _ c.loop-place.invariant.below.walked c.in-Some.ensures.taken (rest-below c.in-Some.place _ _ c.in-Some.ensures.taken c.in-Some.ensures.greatest) in
    let same = ap length c.trail-trail.ensures.trail in
    let small = c.trail-trail.type_inv.1 in
    omega arith

pub bounds-trail-place : goal.bounds-trail-place
bounds-trail-place c =
    let inside = top-inside c.args.kernel.now c.args.conflict c.in-Some.place c.loop-place.marks _ _ c.loop-place.invariant.below.walked c.in-Some.ensures.taken (rest-below c.in-Some.place _ _ c.in-Some.ensures.taken c.in-Some.ensures.greatest) in
    rw c.trail-trail.ensures.trail inside

pub look_below-requires : goal.look_below-requires
look_below-requires c =
    let k = c.args.kernel.now in
    let h = c.loop-place.invariant.below in
    let e = c.index-trail-place.result in
    let now = record c.loop-place.marks { pending = c.pop.new.self } in
    let greatest = rest-below c.in-Some.place _ _ c.in-Some.ensures.taken c.in-Some.ensures.greatest in
    let d = IsWalked-popped k c.args.conflict c.in-Some.place e c.trail-trail.result.now c.loop-place.marks now c.loop-place.hints.items h.walked
    c.trail-trail.ensures.trail c.index-trail-place.is refl refl refl c.in-Some.ensures.taken greatest in
    let same = popped-set k c.args.conflict c.in-Some.place e c.trail-trail.result.now c.loop-place.marks now c.loop-place.hints.items h.walked
    c.trail-trail.ensures.trail c.index-trail-place.is refl refl refl c.in-Some.ensures.taken greatest in
    record {
      marks = record {
        lawful = c.trail-trail.ensures.lawful;
        over = c.trail-trail.ensures.over;
        lower = below-lower k _ c.args.conflict c.in-Some.place e c.loop-place.marks now c.loop-place.hints.items h c.trail-trail.ensures.lawful c.requires.above d same.0 same.1;
        removable = _;
        set = d.set;
        bound = c.in-Some.place;
        is = d.is;
        at = d.at;
        is_open_there = d.is_open_there;
        settled = below-settled k _ c.args.conflict c.in-Some.place e c.loop-place.marks now c.loop-place.hints.items h c.trail-trail.ensures.lawful c.requires.above d same.0 same.1;
      };
    }

pub loop-place-smaller : goal.loop-place-smaller
loop-place-smaller c =
    let k = c.args.kernel.now in
    let h = c.loop-place.invariant.below in
    let e = c.index-trail-place.result in
    let now = record c.loop-place.marks { pending = c.pop.new.self } in
    let greatest = rest-below c.in-Some.place _ _ c.in-Some.ensures.taken c.in-Some.ensures.greatest in
    let d = IsWalked-popped k c.args.conflict c.in-Some.place e c.trail-trail.result.now c.loop-place.marks now c.loop-place.hints.items h.walked
    c.trail-trail.ensures.trail c.index-trail-place.is refl refl refl c.in-Some.ensures.taken greatest in
    let same = popped-set k c.args.conflict c.in-Some.place e c.trail-trail.result.now c.loop-place.marks now c.loop-place.hints.items h.walked
    c.trail-trail.ensures.trail c.index-trail-place.is refl refl refl c.in-Some.ensures.taken greatest in
    let settled = below-settled k _ c.args.conflict c.in-Some.place e c.loop-place.marks now c.loop-place.hints.items h c.trail-trail.ensures.lawful c.requires.above d same.0 same.1 in
    let below : top_of c.look_below.new.marks.pending ≤ c.in-Some.place =
    Resolves-below _ _ d.set c.in-Some.place _ _ c.look_below.new.marks (c.in_ok-look_below.ensures.set _ d.set c.in-Some.place d.at d.is_open_there settled d.is) in
    let first = top-popped c.in-Some.place c.loop-place.marks.pending _ c.in-Some.ensures.taken in
    omega arith

pub loop-place-preserved : goal.loop-place-preserved
loop-place-preserved c =
    let k = c.args.kernel.now in
    let h = c.loop-place.invariant.below in
    let e = c.index-trail-place.result in
    let now = record c.loop-place.marks { pending = c.pop.new.self } in
    let greatest = rest-below c.in-Some.place _ _ c.in-Some.ensures.taken c.in-Some.ensures.greatest in
    let d = IsWalked-popped k c.args.conflict c.in-Some.place e c.trail-trail.result.now c.loop-place.marks now c.loop-place.hints.items h.walked
    c.trail-trail.ensures.trail c.index-trail-place.is refl refl refl c.in-Some.ensures.taken greatest in
    let same = popped-set k c.args.conflict c.in-Some.place e c.trail-trail.result.now c.loop-place.marks now c.loop-place.hints.items h.walked
    c.trail-trail.ensures.trail c.index-trail-place.is refl refl refl c.in-Some.ensures.taken greatest in
    let settled = below-settled k _ c.args.conflict c.in-Some.place e c.loop-place.marks now c.loop-place.hints.items h c.trail-trail.ensures.lawful c.requires.above d same.0 same.1 in
    record {
      below = IsBelow-next k _ c.args.conflict c.in-Some.place e c.loop-place.marks now c.loop-place.hints.items h c.trail-trail.ensures.lawful c.requires.above d same.0 same.1 c.look_below.new.marks _
          (c.in_ok-look_below.ensures.set _ d.set c.in-Some.place d.at d.is_open_there settled d.is);
    }

pub returns-clause-set : goal.returns-clause-set
returns-clause-set c =
    let none = c.in_default.ensures.none in
    IsSet-empty _ _ 0 c.loop-place.marks _ refl refl refl none.0 none.1
    (IsWalked-set _ _ c.loop-place.marks c.loop-place.hints.items c.loop-place.invariant.below.walked none.0)

pub returns-clause-hints : goal.returns-clause-hints
returns-clause-hints c = IsWalked-hints _ _ c.loop-place.marks c.loop-place.hints.items c.loop-place.invariant.below.walked c.in_default.ensures.none.0
