use Rattle.std.proofs.Common.{arith}
use Rattle.simplify.proofs.MergedLists.{merged-left_alone}
use Rattle.simplify.proofs.two_lists.is_left_next.Goals as goal

pub returns-then-j-right-clause-yes : goal.returns-then-j-right-clause-yes
returns-then-j-right-clause-yes c = λ e. merged-left_alone c.args.left.now c.args.right.now c.args.i c.args.j c.requires.0 (let end = c.if-j-right.true in omega arith)
