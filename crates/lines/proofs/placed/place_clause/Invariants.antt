use Rattle.std.proofs.Common.{◌≡◌, ◌+◌, ◌-◌, ◌*◌, ◌≤◌, List, length, take}
use Rattle.theory.specs.Learning.{Line}
use Rattle.lines.specs.Rows.{row, whole, clause_part}
use Rattle.lines.proofs.placed.place_clause.Given as goal

-- the clause so far stands behind the lines, and there is room for the literals that are left
abbrev pub invariant-loop-lit : goal.invariant-loop-lit
invariant-loop-lit l = record {
  behind : l.fn.at ≤ l.end;
  within : l.end ≤ l.fn.at + 5 * l.lit-index;
  room : l.end + 5 * (length l.clause - l.lit-index) + 10 ≤ length l.bytes;
  front : take l.fn.at l.bytes ≡ take l.fn.at l.fn.bytes;
  clause : (lines : List Line) → row (take l.fn.at l.fn.bytes) ≡ whole lines → row (take l.end l.bytes) ≡ clause_part lines (take l.lit-index l.clause) l.last;
}
