use Rattle.std.proofs.Common.{◌≡◌, ◌+◌, ◌≤◌, ◌^◌, drop}
use Rattle.theory.specs.Places.{place_in, place_of}
use Rattle.cubes.proofs.place.place_of.Given as goal

-- the literals that are left give the rest, and there is room for it
abbrev pub invariant-loop-lit : goal.invariant-loop-lit
invariant-loop-lit l = record {
  few : l.left ≤ 32;
  rest : l.place + place_in l.left (drop l.lit-index l.lit-items) ≡ place_of l.fn.cube;
  room : l.place + 2 ^ l.left ≤ 2 ^ 32;
}
