use Rattle.std.proofs.Common.{All, take}
use Rattle.spread.specs.OpenCubes.{IsTop}
use Rattle.spread.proofs.open_cubes.Tops.of.Given as goal

-- the cubes so far
abbrev pub invariant-loop-cube : goal.invariant-loop-cube
invariant-loop-cube l = All (IsTop l.tops) (take l.cube-index l.cubes)
