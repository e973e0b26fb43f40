use Rattle.std.proofs.Common.{take}
use Rattle.simplify.specs.Tables.{AreListed}
use Rattle.simplify.proofs.number_list.list.Given as goal

-- those of the first literals have the number
abbrev pub invariant-loop-lit : goal.invariant-loop-lit
invariant-loop-lit l = AreListed l.fn.lists (take l.lit-index l.clause) l.number l.lists
