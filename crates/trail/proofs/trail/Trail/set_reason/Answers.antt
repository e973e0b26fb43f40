use Rattle.std.proofs.Common.{◌≡◌, Some, ap, sym, ◌∙◌, set, slice_get}
use Rattle.std.proofs.lemmas.Option.{slice_get-get_or, get_or_from_slice_get}
use Rattle.theory.specs.Trails.{Entry}
use Rattle.trail.proofs.Reasons.{IsOrdered-reason, AreTables-reason, IsNextFree-reason}
use Rattle.trail.proofs.trail.Trail.set_reason.Goals as goal

pub invariant_of-self : goal.invariant_of-self
invariant_of-self c =
    let V = c.self.inside.vars in
    let T = c.self.inside.entries.items in
    let p = c.args.place in
    let e = c.index_mut.result.now in
    let r = Some c.args.reason in
    let at : slice_get T p ≡ Some e = slice_get-get_or T p e (rw (← c.self.view_is) at c.requires) ∙ ap Some (sym c.index_mut.ensures.value) in
    rw (ap (λ (x : Entry). record x { reason = r }) c.behind-self.view_is) (
      IsOrdered-reason V T p e r at c.self.invariant.0,
      c.self.invariant.1,
      c.self.invariant.2,
      AreTables-reason V T p e r c.self.inside.truths.items c.self.inside.places.items at c.self.invariant.3,
      IsNextFree-reason V T p e r c.self.inside.next_free at c.self.invariant.4,
    )

pub returns-clause-entries : goal.returns-clause-entries
returns-clause-entries c e at =
    let T = c.self.inside.entries.items in
    let p = c.args.place in
    let x = c.index_mut.result.now in
    let same : x ≡ e = c.index_mut.ensures.value ∙ get_or_from_slice_get T p e x (rw (← c.self.view_is) at at) in
    rw (← c.self.view_is) (ap (λ (y : Entry). set T p (record y { reason = Some c.args.reason })) (c.behind-self.view_is ∙ same))
