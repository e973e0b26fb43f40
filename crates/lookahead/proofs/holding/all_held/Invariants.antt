use Rattle.std.proofs.Common.{◌≡◌, List, map}
use Rattle.theory.specs.Literals.{Clause}
use Rattle.theory.specs.Trails.{variables}
use Rattle.theory.specs.Held.{is_held}
use Rattle.lookahead.specs.Tables.{AreOccurrences}
use Rattle.lookahead.proofs.holding.all_held.Given as goal

-- it is known of the variables so far
abbrev pub invariant-loop-before : goal.invariant-loop-before
invariant-loop-before l = (K : List Clause) → AreOccurrences l.vars K l.counts → l.held.items ≡ map (is_held K) (variables l.before)
