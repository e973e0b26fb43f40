use Rattle.cdcl.proofs.UnitPlaces.{place-put, place-there}
use Rattle.cdcl.proofs.analysis.unit_hints.put_place.Goals as goal

pub returns-in_ok-put_last : goal.returns-in_ok-put_last
returns-in_ok-put_last c p =
    place-put c.args.kernel.now.clauses c.args.kernel.now.trail c.var.result c.in-Some.place c.args.lit c.args.places.now.items c.put_last.new.items.items p
    c.trail-trail.ensures.lawful c.requires c.var.ensures.var c.in-Some.ensures.found c.in_ok-put_last.ensures.ok

pub returns-in_default : goal.returns-in_default
returns-in_default c p =
    absurd (place-there c.args.kernel.now.clauses c.args.kernel.now.trail c.var.result c.args.lit c.trail-trail.ensures.lawful c.requires c.var.ensures.var c.in_default.ensures.free)
