use Rattle.std.proofs.Common.{◌≡◌, max, drop}
use Rattle.theory.specs.Learning.{back_level}
use Rattle.cdcl.proofs.analysis.level.back_level.Given as goal

-- what is left gives the rest
abbrev pub invariant-loop-lit : goal.invariant-loop-lit
invariant-loop-lit l = max l.greatest (back_level l.kernel.trail (drop l.lit-index l.clause)) ≡ back_level l.kernel.trail l.clause
