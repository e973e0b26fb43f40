use Rattle.std.proofs.Common.{◌<◌, [], get_or, length, sym, subst}
use Rattle.std.proofs.lemmas.List.{map-set}
use Rattle.theory.specs.Trails.{literals}
use Rattle.kernel.specs.Arranging.{front}
use Rattle.kernel.proofs.Arranged.{At-front, can-see, arranged-set, seen-given}
use Rattle.kernel.proofs.Places.{At-get}
use Rattle.kernel.proofs.clauses.store.Store.visit_clause.Goals as goal

pub visit_clause-requires-clause-clause : goal.visit_clause-requires-clause-clause
visit_clause-requires-clause-clause c =
    let r = (rw (← c.self.view_is) at c.requires) in
    can-see c.self.inside.given c.self.inside.arranged c.self.invariant c.args.truths.trail.now.vars (literals c.args.truths.trail.now.entries) c.args.gone c.args.index r.within r.over r.long r.gone r.watched

pub invariant_of-self : goal.invariant_of-self
invariant_of-self c =
    let r = (rw (← c.self.view_is) at c.requires) in
    let inside : c.args.index < length c.self.inside.arranged = subst (λ n. c.args.index < n) (sym c.self.invariant.long) r.within in
    let at = At-get c.self.inside.arranged c.args.index [] inside in
    let seen = c.visit_clause.ensures (get_or c.self.inside.arranged c.args.index []) at in
    rw seen.1 (arranged-set c.self.inside.given c.self.inside.arranged c.self.invariant c.args.index (get_or c.self.inside.arranged c.args.index []) seen.0 at seen.2.permutes)

pub returns-clause-seen : goal.returns-clause-seen
returns-clause-seen c given w at pair =
    let A = c.self.inside.arranged in
    let n = c.args.index in
    let at = (rw (← c.self.view_is) at at) in
    let f = At-front A n w (rw (← c.self.view_is) at pair) in
    let seen = c.visit_clause.ensures f.0 f.1 in (
      front seen.0,
      rw (← c.self.view_is, seen.1) (map-set front A n seen.0),
      seen-given (literals c.args.truths.trail.now.entries) c.args.gone given f.0 seen.0 w c.visit_clause.result (c.self.invariant.clause n given f.0 at f.1) f.2 seen.2,
    )
