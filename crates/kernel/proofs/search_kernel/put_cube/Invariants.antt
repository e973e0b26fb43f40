use Rattle.std.proofs.Common.{◌≡◌, take}
use Rattle.theory.specs.Trails.{cube_trail}
use Rattle.kernel.proofs.search_kernel.put_cube.Given as goal

-- the entries of the literals so far
abbrev pub invariant-loop-lit : goal.invariant-loop-lit
invariant-loop-lit l = record {
  vars : l.trail.vars ≡ l.initial.trail.vars;
  entries : l.trail.entries ≡ cube_trail (take l.lit-index l.lits);
}
