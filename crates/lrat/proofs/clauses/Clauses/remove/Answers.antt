use Rattle.std.proofs.Common.{ap, sym, arith, is_some}
use Rattle.std.proofs.lemmas.Option.{slice_get_within}
use Rattle.theory.proofs.literals.LiteralLemmas.{not_true}
use Rattle.lrat.proofs.FlatLemmas.{not_false, found, clause-there, clause-gone, clause-none, there-removed, AreFlat-removed, StayThere-removed, AreUpTo-removed}
use Rattle.lrat.proofs.clauses.Clauses.remove.Goals as goal

pub returns-then-not-head-clause-found : goal.returns-then-not-head-clause-found
returns-then-not-head-clause-found c =
    let f = found c.deref.result.now c.self.inside.heads.items c.in-Some.place c.args.id c.index-head.result.now c.deref.ensures.value c.in-Some.ensures c.index-head.ensures in
    rw (← c.self.view_is) (sym (ap is_some (clause-gone c.self.inside.first c.self.inside.lits.items c.self.inside.heads.items c.in-Some.place c.index-head.result.now c.args.id c.self.invariant.order f.0 f.1 (not_true c.index-head.result.now.is_there c.if-not-head.true))))

pub index_mut-requires : goal.index_mut-requires
index_mut-requires c =
    let f = found c.deref.result.now c.self.inside.heads.items c.in-Some.place c.args.id c.index-head.result.now c.deref.ensures.value c.in-Some.ensures c.index-head.ensures in
    let less = slice_get_within c.self.inside.heads.items c.in-Some.place c.index-head.result.now f.0 in
    omega (arith, c.self.inside.heads.ok.0)

pub overflow_sub-head : goal.overflow_sub-head
overflow_sub-head c =
    let f = found c.deref.result.now c.self.inside.heads.items c.in-Some.place c.args.id c.index-head.result.now c.deref.ensures.value c.in-Some.ensures c.index-head.ensures in
    (c.self.invariant.within c.in-Some.place c.index-head.result.now f.0).0

pub invariant_of-self : goal.invariant_of-self
invariant_of-self c =
    let f = found c.deref.result.now c.self.inside.heads.items c.in-Some.place c.args.id c.index-head.result.now c.deref.ensures.value c.in-Some.ensures c.index-head.ensures in
    AreFlat-removed c.self.inside.vars c.self.inside.first c.self.inside.lits.items c.self.inside.heads.items c.in-Some.place c.index-head.result.now c.self.invariant f.0

pub returns-else-not-head-clause-found : goal.returns-else-not-head-clause-found
returns-else-not-head-clause-found c =
    let f = found c.deref.result.now c.self.inside.heads.items c.in-Some.place c.args.id c.index-head.result.now c.deref.ensures.value c.in-Some.ensures c.index-head.ensures in
    rw (← c.self.view_is) (ap is_some (clause-there c.self.inside.first c.self.inside.lits.items c.self.inside.heads.items c.in-Some.place c.index-head.result.now c.args.id c.self.invariant.order f.0 f.1 (not_false c.index-head.result.now.is_there c.if-not-head.false)))

pub returns-else-not-head-clause-removed : goal.returns-else-not-head-clause-removed
returns-else-not-head-clause-removed c =
    let f = found c.deref.result.now c.self.inside.heads.items c.in-Some.place c.args.id c.index-head.result.now c.deref.ensures.value c.in-Some.ensures c.index-head.ensures in
    rw (← c.self.view_is) (λ _. there-removed c.self.inside.first c.self.inside.lits.items c.self.inside.heads.items c.in-Some.place c.index-head.result.now c.args.id c.self.invariant.order f.0 f.1 (not_false c.index-head.result.now.is_there c.if-not-head.false))

pub returns-else-not-head-clause-stay : goal.returns-else-not-head-clause-stay
returns-else-not-head-clause-stay c =
    let f = found c.deref.result.now c.self.inside.heads.items c.in-Some.place c.args.id c.index-head.result.now c.deref.ensures.value c.in-Some.ensures c.index-head.ensures in
    rw (← c.self.view_is) (StayThere-removed c.self.inside.lits.items c.self.inside.heads.items c.in-Some.place c.index-head.result.now f.0)

pub returns-in-None-clause-found : goal.returns-in-None-clause-found
returns-in-None-clause-found c =
    rw (← c.self.view_is) (sym (ap is_some (clause-none c.self.inside.lits.items c.self.inside.heads.items c.args.id (rw c.deref.ensures.value at c.in-None.ensures))))

pub returns-else-not-head-clause-up_to : goal.returns-else-not-head-clause-up_to
returns-else-not-head-clause-up_to c =
    let f = found c.deref.result.now c.self.inside.heads.items c.in-Some.place c.args.id c.index-head.result.now c.deref.ensures.value c.in-Some.ensures c.index-head.ensures in
    rw (← c.self.view_is) (λ n. AreUpTo-removed n c.self.inside.lits.items c.self.inside.heads.items c.in-Some.place c.index-head.result.now f.0)
