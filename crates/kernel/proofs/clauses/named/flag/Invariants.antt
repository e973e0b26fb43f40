use Rattle.std.proofs.Common.{◌≡◌, ℕ, ◌||◌, length, take}
use Rattle.kernel.specs.Forgetting.{is_flagged, is_numbered}
use Rattle.kernel.proofs.clauses.named.flag.Given as goal

-- the flags of the numbers so far
abbrev pub invariant-loop-number : goal.invariant-loop-number
invariant-loop-number l = record {
  flagged : (n : ℕ) → is_flagged l.first l.flags n ≡ is_flagged l.first l.initial.flags n || is_numbered (take l.number-index l.numbers) n;
  long : length l.flags ≡ length l.initial.flags;
}
