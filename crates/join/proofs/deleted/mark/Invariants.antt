use Rattle.std.proofs.Common.{◌≡◌, ◌||◌, ℕ, take, length}
use Rattle.theory.specs.Deletions.{is_among}
use Rattle.join.specs.Deleted.{is_marked}
use Rattle.join.proofs.deleted.mark.Given as goal

-- those so far are marked
abbrev pub invariant-loop-number : goal.invariant-loop-number
invariant-loop-number l = record {
  marked : (k : ℕ) → is_marked l.first l.marks k ≡ is_marked l.first l.initial.marks k || is_among k (take l.number-index l.numbers);
  many : length l.marks ≡ length l.initial.marks;
}
