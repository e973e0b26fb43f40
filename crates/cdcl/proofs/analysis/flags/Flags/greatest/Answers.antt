use Rattle.std.proofs.Common.{arith}
use Rattle.cdcl.proofs.FlagLemmas.{found, found-there, found-most, none-within}
use Rattle.cdcl.proofs.analysis.flags.Flags.greatest.Goals as goal

pub returns-clause-none : goal.returns-clause-none
returns-clause-none c =
    let e = c.behind_last-self-inside.ensures in
    let f = found _ _ _ _ _ c.self.invariant c.deref.ensures.value e.most e.none_behind e.last in
    rw (← c.self.view_is) (none-within _ _ _ f.within (omega (arith, c.if-self.false)))

pub returns-then-self-clause-there : goal.returns-then-self-clause-there
returns-then-self-clause-there c =
    let e = c.behind_last-self-inside.ensures in
    let f = found _ _ _ _ _ c.self.invariant c.deref.ensures.value e.most e.none_behind e.last in
    rw (← c.self.view_is) (found-there _ _ _ f c.if-self.true)

pub returns-then-self-clause-greatest : goal.returns-then-self-clause-greatest
returns-then-self-clause-greatest c =
    let e = c.behind_last-self-inside.ensures in
    let f = found _ _ _ _ _ c.self.invariant c.deref.ensures.value e.most e.none_behind e.last in
    rw (← c.self.view_is) (found-most _ _ _ f c.if-self.true)

pub invariant_of-self : goal.invariant_of-self
invariant_of-self c =
    let e = c.behind_last-self-inside.ensures in
    let f = found _ _ _ _ _ c.self.invariant c.deref.ensures.value e.most e.none_behind e.last in
    f.within
