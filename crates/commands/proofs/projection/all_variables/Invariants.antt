use Rattle.std.proofs.Common.{◌≡◌, All}
use Rattle.theory.specs.Literals.{IsVariable}
use Rattle.theory.specs.Trails.{variables}
use Rattle.commands.proofs.projection.all_variables.Given as goal

abbrev pub invariant-loop-index : goal.invariant-loop-index
invariant-loop-index l = record {
  items : l.all.items ≡ variables l.index;
  over : All (IsVariable l.vars) l.all.items;
}
