use Rattle.std.proofs.Common.{◌≡◌, ◌∙◌, ◌++◌, ◌∷◌, [], refl, ap}
use Rattle.theory.specs.Trails.{Entry}
use Rattle.cdcl.proofs.PlaceLemmas.{entry-read}
use Rattle.cdcl.proofs.search.focused.FocusedSearch.learn_unit.Goals as goal

pub returns : goal.returns
returns c e at =
    let T = c.args.self.now.kernel.trail in
    let read : c.entry.inside.lit ≡ e.lit = ap (λ (x : Entry). x.lit) (c.entry.view_is ∙ entry-read T c.trail.result.now c.args.place c.index-trail-place.result e c.trail.ensures.trail c.index-trail-place.is at) in
    record {
      lines = rw read at c.in_ok-push_unit.ensures.ok;
      marks = c.in_ok-push.ensures.items ∙ ap (λ x. c.args.self.now.marks.items ++ x ∷ []) c.fresh.ensures;
      kernel = c.in_ok-learn_unit.ensures.learnt e at;
      same = refl;
    }
