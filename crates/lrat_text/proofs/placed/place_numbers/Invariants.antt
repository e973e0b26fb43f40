use Rattle.std.proofs.Common.{◌≡◌, ◌+◌, ◌-◌, ◌*◌, ◌≤◌, ◌++◌, map, length, take, drop, decimal}
use Rattle.lrat_text.specs.Words.{spaced}
use Rattle.lrat_text.proofs.placed.place_numbers.Given as goal

-- the numbers that are left complete the text, and there is room for them
abbrev pub invariant-loop-number : goal.invariant-loop-number
invariant-loop-number l = record {
  left : take l.end l.bytes ++ spaced (map decimal (drop l.number-index l.numbers)) ≡ take l.fn.at l.fn.bytes ++ spaced (map decimal l.numbers);
  room : l.end + 21 * (length l.numbers - l.number-index) ≤ length l.bytes;
  within : l.end ≤ l.fn.at + 21 * l.number-index;
}
