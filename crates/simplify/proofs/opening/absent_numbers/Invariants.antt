use Rattle.std.proofs.Common.{◌≡◌, take}
use Rattle.simplify.specs.Opening.{absent_in}
use Rattle.simplify.proofs.opening.absent_numbers.Given as goal

-- those so far
abbrev pub invariant-loop-before : goal.invariant-loop-before
invariant-loop-before l = l.numbers.items ≡ absent_in 1 (take l.before l.database.entries)
