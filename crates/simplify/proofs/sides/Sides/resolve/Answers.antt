use Rattle.simplify.proofs.SideNumbers.{left-there, right-there, pairs-few}
use Rattle.simplify.proofs.sides.Sides.resolve.Goals as goal

pub make-requires-clause-left : goal.make-requires-clause-left
make-requires-clause-left c = rw c.left-left.ensures (left-there c.args.variable c.args.database.now.entries)

pub make-requires-clause-right : goal.make-requires-clause-right
make-requires-clause-right c = rw c.right-right.ensures (right-there c.args.variable c.args.database.now.entries)

pub make-requires-clause-few : goal.make-requires-clause-few
make-requires-clause-few c = rw (c.left-left.ensures, c.right-right.ensures) (pairs-few c.args.variable c.args.database.now.entries c.requires.light c.last-last.ensures.few)
