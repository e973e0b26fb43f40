use Rattle.std.proofs.Common.{take}
use Rattle.simplify.specs.Tried.{IsRenewed}
use Rattle.simplify.proofs.trial.renew.Given as goal

-- those so far wait
abbrev pub invariant-loop-variable : goal.invariant-loop-variable
invariant-loop-variable l = IsRenewed l.database.vars l.database.entries (take l.variable-index l.variables) l.fn.candidates l.candidates
