use Rattle.std.proofs.Common.{arith, sym}
use Rattle.cnf.proofs.Pieces.{start_at-behind}
use Rattle.kernel.proofs.clauses.ends.start_of.Goals as goal

pub returns-else-index-eq0 : goal.returns-else-index-eq0
returns-else-index-eq0 c = sym (start_at-behind 0 c.args.ends.now c.args.index (omega arith))
