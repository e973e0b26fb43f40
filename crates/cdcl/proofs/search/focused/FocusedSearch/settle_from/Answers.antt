use Rattle.std.proofs.Common.{◌∙◌, ◌<◌, length, ap, arith}
use Rattle.cdcl.proofs.PlaceLemmas.{placed-there}
use Rattle.cdcl.proofs.UnitSteps.{settling-first, settling-next}
use Rattle.cdcl.proofs.SettledSearches.{settled-here}
use Rattle.cdcl.proofs.search.focused.FocusedSearch.settle_from.Goals as goal

pub loop-place-init : goal.loop-place-init
loop-place-init c = settling-first c.args.self.now c.args.from c.requires.units

inside : (c : goal.After-settle_entry-arg-1) → c.loop-place.place < length c.loop-place.self.kernel.trail
inside c = let less = c.loop-place-test.true in let long = c.loop-place.invariant.more.long in let same = ap length c.trail-place-end.ensures.trail in omega arith

pub settle_entry-requires : goal.settle_entry-requires
settle_entry-requires c = record { inside = inside c; level = c.loop-place.invariant.more.level ∙ c.requires.level }

pub loop-place-preserved : goal.loop-place-preserved
loop-place-preserved c =
    let m = c.loop-place.self in
    let less = c.loop-place-test.true in
    let long = c.loop-place.invariant.more.long in
    let same = ap length c.trail-place-end.ensures.trail in
    let there = placed-there m.kernel.trail c.loop-place.place (omega arith) in
    settling-next c.args.self.now m c.settle_entry.new.self c.loop-place.place there.0 there.1 c.loop-place.invariant (c.in_ok-settle_entry.ensures there.0 there.1)

pub returns : goal.returns
returns c =
    let s = c.args.self.now in
    settled-here s c.loop-place.self c.loop-place.place c.requires.focusing c.requires.level c.loop-place.invariant (let more = c.loop-place-test.false in let long = c.loop-place.invariant.more.long in let same = ap length c.trail-place-end.ensures.trail in omega arith)
    c.trail-trail.ensures.lawful c.trail-trail.ensures.over c.trail-trail.ensures.clauses_over
