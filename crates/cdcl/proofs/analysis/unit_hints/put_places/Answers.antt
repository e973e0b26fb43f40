use Rattle.std.proofs.Common.{◌∙◌, sym}
use Rattle.theory.specs.Trails.{literals}
use Rattle.cdcl.specs.Numbers.{is_one_of}
use Rattle.cdcl.proofs.UnitPlaces.{places-first, left-false}
use Rattle.cdcl.proofs.analysis.unit_hints.put_places.Goals as goal

pub put_place-requires : goal.put_place-requires
put_place-requires c =
    left-false (literals c.args.kernel.now.trail) c.args.clause.now c.args.lit c.other-item.result c.loop-other.other-index c.requires c.loop-other-test.true c.other-item.is (sym c.same.ensures ∙ c.if-not-same.true)

pub loop-other-init : goal.loop-other-init
loop-other-init c p = places-first (is_one_of c.args.places.now.items p) c.args.clause.now c.args.lit c.args.kernel.now.trail p
