use Rattle.std.proofs.Common.{◌≡◌, take}
use Rattle.cdcl.proofs.GlueCounts.{AreLevelsOf}
use Rattle.cdcl.proofs.analysis.glue.glue.Given as goal

-- the levels of the literals so far are in
abbrev pub invariant-loop-lit : goal.invariant-loop-lit
invariant-loop-lit l = record {
  bound : l.levels.bound ≡ l.initial.levels.bound;
  levels : AreLevelsOf l.kernel.trail (take l.lit-index l.clause) l.levels.numbers;
}
