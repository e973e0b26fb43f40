use Rattle.std.proofs.Common.{◌≡◌, ◌-◌, ◌≤◌, ◌++◌, length, drop}
use Rattle.theory.specs.Trails.{literals}
use Rattle.theory.specs.Looking.{max_candidates}
use Rattle.lookahead.specs.Rankings.{first_free}
use Rattle.lookahead.proofs.ranking.Ranking.candidates.Given as goal

-- those of the variables to come are missing
abbrev pub invariant-loop-place : goal.invariant-loop-place
invariant-loop-place l = record {
  found : l.candidates.items ++ first_free (max_candidates - length l.candidates.items) (literals l.kernel.trail) (drop l.place l.self)
      ≡ first_free max_candidates (literals l.kernel.trail) l.self;
  few : length l.candidates.items ≤ max_candidates;
  inside : l.place ≤ length l.self;
}

abbrev pub decreases-loop-place : goal.decreases-loop-place
decreases-loop-place l = length l.self - l.place
