use Rattle.std.proofs.Common.{[], refl}
use Rattle.lrat.proofs.HeldLemmas.{Extends-nothing}
use Rattle.tidying.proofs.literals.Distinct.take.Goals as goal

pub put_once-requires-clause-none : goal.put_once-requires-clause-none
put_once-requires-clause-none c = c.go_back.ensures.left [] refl (Extends-nothing c.args.self.now.held.literals)
