use Rattle.std.proofs.Common.{◌≡◌, ℕ, true, false, length, drop, slice_index_or}
use Rattle.cdcl.specs.Numbers.{AreAmong, is_one_of}
use Rattle.cdcl.proofs.analysis.numbers.unset.Given as goal

-- only flags of the numbers to come are left
abbrev pub invariant-loop-number : goal.invariant-loop-number
invariant-loop-number l = record {
  long : length l.flags ≡ length l.fn.flags;
  left : AreAmong l.numbers l.fn.flags → (n : ℕ) → slice_index_or l.flags n false ≡ true → is_one_of (drop l.number-index l.numbers) n ≡ true;
}
