use Rattle.std.proofs.Common.{◌≡◌, take}
use Rattle.theory.specs.Literals.{IsCube}
use Rattle.theory.specs.Truth.{IsOver}
use Rattle.packs.specs.Known.{IsHolding}
use Rattle.packs.proofs.reader.cube_of.Given as goal

-- the literals so far are a cube, and are held
abbrev pub invariant-loop-lit : goal.invariant-loop-lit
invariant-loop-lit l = record {
  literals : l.cube ≡ take l.lit-index l.literals;
  cube : IsCube (take l.lit-index l.literals);
  over : IsOver l.fn.held.vars (take l.lit-index l.literals);
  held : IsHolding (take l.lit-index l.literals) l.held.literals;
  vars : l.held.vars ≡ l.fn.held.vars;
}
