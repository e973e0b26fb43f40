use Rattle.std.proofs.Common.{◌≡◌, take}
use Rattle.simplify.specs.Tried.{vars_of}
use Rattle.simplify.proofs.touched.list_variables.Given as goal

-- those of the clauses so far
abbrev pub invariant-loop-number : goal.invariant-loop-number
invariant-loop-number l = l.out.items ≡ vars_of l.database.entries (take l.number-index l.numbers)
