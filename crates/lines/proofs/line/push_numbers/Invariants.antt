use Rattle.std.proofs.Common.{◌≡◌, ◌<◌, ◌^◌, take}
use Rattle.lines.specs.Rows.{Part, row, listed, IsListing, IsFront}
use Rattle.lines.proofs.line.push_numbers.Given as goal

-- the numbers so far stand behind the part
abbrev pub invariant-loop-number : goal.invariant-loop-number
invariant-loop-number l =
    IsFront l.fn.bytes.items l.bytes.items × (l.last < 2 ^ 63)
    × ((p : Part) → IsListing p → row l.fn.bytes.items ≡ p → row l.bytes.items ≡ listed p.section p (take l.number-index l.numbers) l.last)
