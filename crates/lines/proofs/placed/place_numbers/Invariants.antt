use Rattle.std.proofs.Common.{◌≡◌, ◌+◌, ◌-◌, ◌*◌, ◌^◌, ◌<◌, ◌≤◌, length, take}
use Rattle.lines.specs.Rows.{Part, row, listed, IsListing}
use Rattle.lines.proofs.placed.place_numbers.Given as goal

-- the numbers so far stand behind the part, and there is room for those that are left
abbrev pub invariant-loop-number : goal.invariant-loop-number
invariant-loop-number l = record {
  behind : l.fn.at ≤ l.end;
  within : l.end ≤ l.fn.at + 10 * l.number-index;
  last : l.last < 2 ^ 63;
  room : l.end + 10 * (length l.numbers - l.number-index) + 10 ≤ length l.bytes;
  front : take l.fn.at l.bytes ≡ take l.fn.at l.fn.bytes;
  numbers : (p : Part) → IsListing p → row (take l.fn.at l.fn.bytes) ≡ p → row (take l.end l.bytes) ≡ listed p.section p (take l.number-index l.numbers) l.last;
}
