-- What stands for a cube's lines where none is kept.
use Rattle.std.specs.Prelude.{List}
use Rattle.theory.specs.Learning.{Line}
use Rattle.cdcl.specs.declared.api.unkept.Had.{Had}
use Rattle.cdcl.specs.declared.api.unkept.Had.TheVariants.{InRow, InLog}

-- the lines that the cube had
abbrev pub had_lines : Had → List Line
had_lines (InRow s) = s.value
had_lines (InLog s) = s.value
