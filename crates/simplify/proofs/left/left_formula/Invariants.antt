use Rattle.std.proofs.Common.{◌≡◌, map}
use Rattle.theory.specs.Proofs.{numbers_from}
use Rattle.simplify.specs.Left.{left_at}
use Rattle.simplify.proofs.left.left_formula.Given as goal

-- those so far
abbrev pub invariant-loop-before : goal.invariant-loop-before
invariant-loop-before l = l.left ≡ record {
  vars = l.formula.vars;
  clauses = map (left_at l.formula l.database.entries) (numbers_from 1 l.before);
}
