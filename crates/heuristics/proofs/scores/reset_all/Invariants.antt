use Rattle.std.proofs.Common.{◌≡◌, ◌≢◌, ℕ, true, length, drop, slice_index, nat_eq}
use Rattle.std.specs.List.{list_any}
use Rattle.heuristics.specs.Tournaments.{IsPlayedBut}
use Rattle.heuristics.proofs.scores.reset_all.Given as goal

-- only those to come have a score
abbrev pub invariant-loop-variable : goal.invariant-loop-variable
invariant-loop-variable l = record {
  played : IsPlayedBut l.scores l.winners 0;
  none : slice_index l.scores 0 ≡ 0;
  leaves : drop (length l.fn.scores) l.winners ≡ drop (length l.fn.scores) l.fn.winners;
  left : (v : ℕ) → slice_index l.scores v ≢ 0 → list_any (nat_eq v) (drop l.variable-index l.gained) ≡ true;
}
