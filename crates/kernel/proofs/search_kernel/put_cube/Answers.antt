use Rattle.std.proofs.Common.{◌≡◌, ap, ◌∙◌, take, arith}
use Rattle.theory.specs.Trails.{current_level}
use Rattle.theory.proofs.searching.OpenTrails.{current_level-cube_trail}
use Rattle.trail.proofs.Cubes.{cube_trail-free}
use Rattle.kernel.proofs.search_kernel.put_cube.Goals as goal

pub push-requires-clause-is_free : goal.push-requires-clause-is_free
push-requires-clause-is_free c =
    rw (c.loop-lit.invariant.entries, c.lit-item.is) (cube_trail-free c.args.lits.now c.loop-lit.lit-index c.lit-item.result c.requires.cube c.loop-lit-test.true)

pub push-requires-clause-is_latest : goal.push-requires-clause-is_latest
push-requires-clause-is_latest c =
    let none : current_level c.loop-lit.trail.entries ≡ 0 = ap current_level c.loop-lit.invariant.entries ∙ current_level-cube_trail (take c.loop-lit.lit-index c.args.lits.now) in
    omega arith
