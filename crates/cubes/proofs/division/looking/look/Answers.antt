use Rattle.std.proofs.Common.{◌∙◌, ap}
use Rattle.theory.specs.Trails.{current_level}
use Rattle.theory.specs.Focused.{FocusedState}
use Rattle.theory.proofs.searching.OpenTrails.{current_level-cube_trail}
use Rattle.cubes.proofs.division.looking.look.Goals as goal

pub look_from_here-requires-clause-level : goal.look_from_here-requires-clause-level
look_from_here-requires-clause-level c =
    let begun = c.in_ok-begin.ensures c.requires.ready.0 c.requires.ready.1 in
    ap (λ (s : FocusedState). current_level s.trail) begun.begun ∙ current_level-cube_trail c.args.cube.now
