use Rattle.std.proofs.Common.{◌≡◌, List, take}
use Rattle.theory.specs.Learning.{Line}
use Rattle.lines.specs.Rows.{row, whole, clause_part, IsFront}
use Rattle.lines.proofs.line.push_clause.Given as goal

-- the clause so far stands behind the lines
abbrev pub invariant-loop-lit : goal.invariant-loop-lit
invariant-loop-lit l =
    IsFront l.fn.bytes.items l.bytes.items
    × ((lines : List Line) → row l.fn.bytes.items ≡ whole lines → row l.bytes.items ≡ clause_part lines (take l.lit-index l.clause) l.last)
