use Rattle.std.proofs.Common.{◌≡◌, length, All}
use Rattle.std.specs.List.{list_any, slice_range}
use Rattle.theory.specs.Truth.{value, IsOver}
use Rattle.cnf.specs.Pieces.{pieces}
use Rattle.simplify.proofs.ExtendedModels.{is_without}
use Rattle.simplify.proofs.eliminated.needs.Given as goal

-- what is left decides
abbrev pub invariant-loop-place : goal.invariant-loop-place
invariant-loop-place l = record {
  any : list_any (is_without (value l.values) l.variable) (slice_range (pieces 0 l.literals l.ends) l.place l.to) ≡ list_any (is_without (value l.values) l.variable) (slice_range (pieces 0 l.literals l.ends) l.from l.to);
  over : All (IsOver (length l.values)) (slice_range (pieces 0 l.literals l.ends) l.place l.to);
}
