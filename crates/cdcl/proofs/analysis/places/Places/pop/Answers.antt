use Rattle.std.proofs.Common.{Some}
use Rattle.cdcl.proofs.PlaceBags.{taken-far, greatest-far, taken-near, greatest-near}
use Rattle.cdcl.proofs.analysis.places.Places.pop.Goals as goal

pub returns-then-has_above-clause-taken : goal.returns-then-has_above-clause-taken
returns-then-has_above-clause-taken c = rw (← c.self.view_is, c.in-Some.ensures.kept) (taken-far _ _ _ _ c.take_greatest-then-has_above.ensures.taken)

pub returns-then-has_above-clause-greatest : goal.returns-then-has_above-clause-greatest
returns-then-has_above-clause-greatest c =
    let above = c.has_above.ensures.above c.if-has_above.true in
    rw (← c.self.view_is) (greatest-far _ _ _ above.0 c.in-Some.near above.1 above.2 c.in-Some.ensures.greatest c.take_greatest-then-has_above.ensures.greatest)

pub returns-clause-taken : goal.returns-clause-taken
returns-clause-taken c = rw (← c.self.view_is) (taken-near (Some c.in-Some.near) _ _ _ (rw c.in-Some.ensures.kept at c.take.ensures))

pub returns-clause-greatest : goal.returns-clause-greatest
returns-clause-greatest c =
    rw (← c.self.view_is) (greatest-near (Some c.in-Some.near) _ _ c.in-Some.near c.in-Some.ensures.there (c.has_above.ensures.none c.if-has_above.false) c.in-Some.ensures.greatest)
