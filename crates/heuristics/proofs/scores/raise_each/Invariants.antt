use Rattle.std.proofs.Common.{◌≡◌, ℕ, ◌+◌, ◌<◌, length, drop, take, slice_index, nat_eq, if◌then◌else◌}
use Rattle.std.specs.List.{list_any}
use Rattle.heuristics.specs.Tournaments.{IsPlayedBut}
use Rattle.heuristics.proofs.scores.raise_each.Given as goal

-- those so far gained a step
abbrev pub invariant-loop-variable : goal.invariant-loop-variable
invariant-loop-variable l = record {
  played : IsPlayedBut l.scores l.winners 0;
  leaves : drop (length l.fn.scores) l.winners ≡ drop (length l.fn.scores) l.fn.winners;
  gained : (v : ℕ) → v < length l.fn.scores → slice_index l.scores v ≡
      slice_index l.fn.scores v + (if list_any (nat_eq v) (take l.variable-index l.seen) then l.step else 0);
}
