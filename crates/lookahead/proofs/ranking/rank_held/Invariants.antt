use Rattle.std.proofs.Common.{◌≡◌, List, map, filter}
use Rattle.theory.specs.Literals.{Clause}
use Rattle.theory.specs.Trails.{variables}
use Rattle.theory.specs.Held.{is_held}
use Rattle.theory.specs.Looking.{rank}
use Rattle.lookahead.specs.Tables.{AreOccurrences}
use Rattle.lookahead.specs.Rankings.{ranked_by}
use Rattle.lookahead.proofs.ranking.rank_held.Given as goal

-- the variables so far are ranked
abbrev pub invariant-loop-before : goal.invariant-loop-before
invariant-loop-before l = (K : List Clause) → AreOccurrences l.vars K l.counts → l.ranked.items ≡ map (ranked_by (rank K)) (filter (is_held K) (variables l.before))
