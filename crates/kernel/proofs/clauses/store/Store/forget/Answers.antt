use Rattle.kernel.proofs.Arranged.{arranged-forget, arranged-some, pairs-forget}
use Rattle.kernel.proofs.clauses.store.Store.forget.Goals as goal

pub forget-requires-2-clause-some : goal.forget-requires-2-clause-some
forget-requires-2-clause-some c = arranged-some c.self.inside.given c.self.inside.arranged c.self.invariant c.args.first (rw (← c.self.view_is) at c.requires.some)

pub invariant_of-self : goal.invariant_of-self
invariant_of-self c =
    let numbers = c.requires.told.0 in
    let tells = c.requires.told.1 in
    rw (c.forget.ensures numbers tells, c.forget-2.ensures numbers tells) (arranged-forget c.self.inside.given c.self.inside.arranged c.self.invariant numbers)

pub returns-clause-pairs : goal.returns-clause-pairs
returns-clause-pairs c numbers tells = rw (c.forget-2.ensures numbers tells, ← c.self.view_is) (pairs-forget c.self.inside.arranged numbers)
