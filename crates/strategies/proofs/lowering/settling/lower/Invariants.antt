use Rattle.strategies.specs.Lowering.{IsLowering}
use Rattle.strategies.proofs.lowering.settling.lower.Given as goal

-- the variables before this one are settled
abbrev pub invariant-loop-var : goal.invariant-loop-var
invariant-loop-var g l = IsLowering l.formula l.var l.lowering
