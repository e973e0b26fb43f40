use Rattle.std.proofs.Common.{sym}
use Rattle.lrat.proofs.FlatLemmas.{found, clause-there, clause-gone, clause-none}
use Rattle.lrat.proofs.clauses.Clauses.get.Goals as goal

pub returns-then-head-clause-clause : goal.returns-then-head-clause-clause
returns-then-head-clause-clause c =
    let f = found c.deref.result.now c.self.inside.heads.items c.in-Some.place c.args.id c.index-head.result.now c.deref.ensures.value c.in-Some.ensures c.index-head.ensures in
    let h = clause-there c.self.inside.first c.self.inside.lits.items c.self.inside.heads.items c.in-Some.place c.index-head.result.now c.args.id c.self.invariant.order f.0 f.1 c.if-head.true in
    rw (← c.self.view_is) (rw c.deref-then-head.ensures.value h)

pub returns-then-head-clause-over : goal.returns-then-head-clause-over
returns-then-head-clause-over c =
    let f = found c.deref.result.now c.self.inside.heads.items c.in-Some.place c.args.id c.index-head.result.now c.deref.ensures.value c.in-Some.ensures c.index-head.ensures in
    let o = c.self.invariant.over c.in-Some.place c.index-head.result.now f.0 in
    rw (← c.self.view_is) (rw c.deref-then-head.ensures.value o)

pub returns-else-head-clause-clause : goal.returns-else-head-clause-clause
returns-else-head-clause-clause c =
    let f = found c.deref.result.now c.self.inside.heads.items c.in-Some.place c.args.id c.index-head.result.now c.deref.ensures.value c.in-Some.ensures c.index-head.ensures in
    rw (← c.self.view_is) (sym (clause-gone c.self.inside.first c.self.inside.lits.items c.self.inside.heads.items c.in-Some.place c.index-head.result.now c.args.id c.self.invariant.order f.0 f.1 c.if-head.false))

pub returns-in-None-clause-clause : goal.returns-in-None-clause-clause
returns-in-None-clause-clause c =
    rw (← c.self.view_is) (sym (clause-none c.self.inside.lits.items c.self.inside.heads.items c.args.id (rw c.deref.ensures.value at c.in-None.ensures)))

pub slice_bounds-result-count : goal.slice_bounds-result-count
slice_bounds-result-count c =
    let f = found c.deref.result.now c.self.inside.heads.items c.in-Some.place c.args.id c.index-head.result.now c.deref.ensures.value c.in-Some.ensures c.index-head.ensures in
    (c.self.invariant.within c.in-Some.place c.index-head.result.now f.0).0

pub slice_bounds-result-start : goal.slice_bounds-result-start
slice_bounds-result-start c =
    let f = found c.deref.result.now c.self.inside.heads.items c.in-Some.place c.args.id c.index-head.result.now c.deref.ensures.value c.in-Some.ensures c.index-head.ensures in
    (c.self.invariant.within c.in-Some.place c.index-head.result.now f.0).0

pub slice_bounds-result-end : goal.slice_bounds-result-end
slice_bounds-result-end c =
    let f = found c.deref.result.now c.self.inside.heads.items c.in-Some.place c.args.id c.index-head.result.now c.deref.ensures.value c.in-Some.ensures c.index-head.ensures in
    let w = c.self.invariant.within c.in-Some.place c.index-head.result.now f.0 in
    rw c.deref-then-head.ensures.value w.1
