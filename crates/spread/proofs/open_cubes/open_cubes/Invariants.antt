use Rattle.std.proofs.Common.{◌≡◌, false, reverse}
use Rattle.spread.specs.OpenCubes.{said_in, IsOnTheWay}
use Rattle.spread.proofs.open_cubes.open_cubes.Given as goal

-- what the way leaves comes behind the open cubes so far
abbrev pub invariant-cubes : goal.invariant-cubes
invariant-cubes l = record {
  way : IsOnTheWay l.formula (said_in l.words) (reverse l.fn.way.items) l.left.cubes.items (reverse l.way.items);
  no_model : l.left.has_model ≡ false;
}
