use Rattle.std.proofs.Common.{All}
use Rattle.theory.specs.Literals.{IsVariable}
use Rattle.commands.proofs.projection.variables_in.Given as goal

abbrev pub invariant-loop-word : goal.invariant-loop-word
invariant-loop-word l = All (IsVariable l.vars) l.named.items
