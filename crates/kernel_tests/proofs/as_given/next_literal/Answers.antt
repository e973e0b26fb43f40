use Rattle.std.proofs.Common.{sym}
use Rattle.theory.proofs.searching.SearchSteps.{least_free-variable}
use Rattle.kernel_tests.proofs.as_given.next_literal.Goals as goal

pub of-requires-clause-some : goal.of-requires-clause-some
of-requires-clause-some c = (least_free-variable c.args.kernel.now.vars c.args.kernel.now.trail c.in-Some.var (sym c.in-Some.ensures)).0.0

pub returns-in-Some : goal.returns-in-Some
returns-in-Some c = rw c.of.ensures (least_free-variable c.args.kernel.now.vars c.args.kernel.now.trail c.in-Some.var (sym c.in-Some.ensures))
