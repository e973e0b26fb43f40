-- What analysis answers.
use Rattle.std.specs.Prelude.{[]}
use Rattle.theory.specs.Learning.{Line}
use Rattle.cdcl.specs.declared.analysis.first_uip.Learnt.{Learnt}

-- the line that was learnt
abbrev pub line_of : Learnt → Line
line_of r = record { clause = r.clause.items; hints = r.hints.items; forgets = [] }
