use Rattle.lrat.proofs.FlatLemmas.{read_at}
use Rattle.lrat.proofs.clauses.Clauses.at.Goals as goal

pub slice_bounds-result-count : goal.slice_bounds-result-count
slice_bounds-result-count c =
    let at = read_at c.self.inside.lits.items c.self.inside.heads.items c.args.place c.index-head.result.now (rw (← c.self.view_is) at c.requires) c.index-head.ensures in
    (c.self.invariant.within c.args.place c.index-head.result.now at).0

pub slice_bounds-result-start : goal.slice_bounds-result-start
slice_bounds-result-start c =
    let at = read_at c.self.inside.lits.items c.self.inside.heads.items c.args.place c.index-head.result.now (rw (← c.self.view_is) at c.requires) c.index-head.ensures in
    (c.self.invariant.within c.args.place c.index-head.result.now at).0

pub slice_bounds-result-end : goal.slice_bounds-result-end
slice_bounds-result-end c =
    let at = read_at c.self.inside.lits.items c.self.inside.heads.items c.args.place c.index-head.result.now (rw (← c.self.view_is) at c.requires) c.index-head.ensures in
    rw c.deref.ensures.value (c.self.invariant.within c.args.place c.index-head.result.now at).1
