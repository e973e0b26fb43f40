use Rattle.lrat.proofs.FlatLemmas.{AreFlat-pushed, there-pushed, StayThere-pushed, AreUpTo-pushed}
use Rattle.lrat.proofs.clauses.Clauses.push.Goals as goal

pub invariant_of-self : goal.invariant_of-self
invariant_of-self c =
    let e = c.append.ensures in
    AreFlat-pushed c.self.inside.vars c.self.inside.first c.args.id c.self.inside.lits.items c.append.new.lits.items c.self.inside.heads.items c.append.new.heads.items c.args.clause.now
    c.append.result c.self.invariant c.requires.positive (rw (← c.self.view_is) at c.requires.above) (rw (← c.self.view_is) at c.requires.over) e.within e.ok e.err e.last

pub returns-clause-ok : goal.returns-clause-ok
returns-clause-ok c =
    rw (← c.self.view_is)
    (there-pushed c.args.id c.self.inside.lits.items c.append.new.lits.items c.self.inside.heads.items c.append.new.heads.items c.args.clause.now c.append.result c.append.ensures.ok)

pub returns-clause-stay : goal.returns-clause-stay
returns-clause-stay c =
    rw (← c.self.view_is)
    (StayThere-pushed c.args.id c.self.inside.lits.items c.append.new.lits.items c.self.inside.heads.items c.append.new.heads.items c.args.clause.now c.append.result c.append.ensures.ok)

pub returns-clause-up_to : goal.returns-clause-up_to
returns-clause-up_to c =
    AreUpTo-pushed c.args.id c.self.inside.lits.items c.append.new.lits.items c.self.inside.heads.items c.append.new.heads.items c.args.clause.now c.append.result (rw (← c.self.view_is) at c.requires.above) c.append.ensures.ok
