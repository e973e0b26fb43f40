use Rattle.std.specs.Prelude.{◌≡◌, map, flat_map}
use Rattle.cubes.proofs.closing.parted.Given as goal

-- the hands and the results so far
abbrev pub invariant-loop-worked : goal.invariant-loop-worked
invariant-loop-worked g l = record {
  hands : l.hands.items ≡ map (λ w. w.hand) l.yielded;
  results : l.results.items ≡ flat_map (λ w. w.solved.items) l.yielded;
}
