use Rattle.std.proofs.Common.{[], ◌∷◌, length, ap, ◌∙◌, sym, length-append}
use Rattle.spread.specs.Parts.{part_at}
use Rattle.spread.proofs.PartLemmas.{of_part-next}
use Rattle.spread.proofs.parts.part_of.Goals as goal

pub cubes-preserved : goal.cubes-preserved
cubes-preserved c =
    let before = c.cubes.invariant in
    let parts = c.parts-parts.result in (
      c.next_part-part.ensures (length c.cubes.yielded) c.parts-parts.ensures.some before.0 ∙ ap (part_at parts) (sym (length-append c.cubes.yielded (c.in-Some.cube ∷ []))),
      of_part-next c.number-number.result parts c.cubes.part c.cubes.yielded c.cubes.way.items c.put_if.new.way.items c.in-Some.cube before.0 before.1 c.in_ok-put_if.ensures,
    )
