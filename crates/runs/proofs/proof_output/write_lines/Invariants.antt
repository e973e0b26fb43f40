use Rattle.std.proofs.Common.{◌++◌, length}
use Rattle.theory.specs.Texts.{proof_text}
use Rattle.runs.specs.Written.{IsOnItsWay}
use Rattle.runs.proofs.proof_output.write_lines.Given as goal

-- the lines so far are written, or stand in the buffer
abbrev pub invariant-lines : goal.invariant-lines
invariant-lines g l = record {
  lawful : g.L.PutsLines.is_lawful l.lines;
  way : IsOnItsWay (g.W.Write.contents l.initial.writer) (g.W.Write.contents l.writer) (l.buffer.items ++ proof_text (g.L.PutsLines.left l.lines)) (l.initial.buffer.items ++ proof_text (g.L.PutsLines.left l.initial.lines));
}

abbrev pub decreases-lines : goal.decreases-lines
decreases-lines g l = length (l.buffer.items ++ proof_text (g.L.PutsLines.left l.lines))
