use Rattle.std.proofs.Common.{◌≡◌, ◌∙◌, get_or, ap}
use Rattle.theory.specs.Literals.{negated}
use Rattle.theory.specs.Trails.{Entry, Trail}
use Rattle.kernel.proofs.NextServed.{serves}
use Rattle.kernel.proofs.Turns.{gone-inside}
use Rattle.kernel.proofs.propagator.Propagator.serve.Goals as goal

pub count-count-requires : goal.count-count-requires
count-count-requires c =
    let s = serves c.args.trail.now.entries c.entries.result.now c.args.place c.index-entries-place.result c.entry.inside.lit c.negated-gone.result c.entries.ensures.entries c.index-entries-place.is (ap (λ (e : Entry). e.lit) c.entry.view_is) c.negated-gone.ensures c.requires.inside in
    rw c.code.ensures (gone-inside c.args.self.now.lists c.args.trail.now.vars c.negated-gone.result c.args.trail.now.entries c.args.place c.requires.lists c.entries.ensures.ordered.over s.next)

pub visit_all-requires-clause-served : goal.visit_all-requires-clause-served
visit_all-requires-clause-served c =
    let s = serves c.args.trail.now.entries c.entries.result.now c.args.place c.index-entries-place.result c.entry.inside.lit c.negated-gone.result c.entries.ensures.entries c.index-entries-place.is (ap (λ (e : Entry). e.lit) c.entry.view_is) c.negated-gone.ensures c.requires.inside in
    (c.requires.served.0, c.args.place, s.next, c.requires.served.1)

pub returns-clause-served : goal.returns-clause-served
returns-clause-served c floor served =
    let s = serves c.args.trail.now.entries c.entries.result.now c.args.place c.index-entries-place.result c.entry.inside.lit c.negated-gone.result c.entries.ensures.entries c.index-entries-place.is (ap (λ (e : Entry). e.lit) c.entry.view_is) c.negated-gone.ensures c.requires.inside in
    let r = c.in_ok-visit_all.ensures.served floor c.args.place s.next served in
    s.on floor c.args.self.now.clauses.given _ r.0 r.1

pub returns-clause-line : goal.returns-clause-line
returns-clause-line c h =
    let T = c.args.trail.now.entries in
    let e = c.index-entries-place.result in
    let read : e ≡ get_or T c.args.place e = c.index-entries-place.is ∙ ap (λ (V : Trail). get_or V c.args.place e) c.entries.ensures.entries in
    let gone : c.negated-gone.result ≡ negated e.lit = c.negated-gone.ensures ∙ ap (λ (d : Entry). negated d.lit) c.entry.view_is in
    c.in_ok-visit_all.ensures.line c.args.order (λ d m. c.found_at-found.ensures e read d (rw gone at m)) h
