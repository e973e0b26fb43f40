use Rattle.std.proofs.Common.{◌≡◌, ◌∙◌, ◌+◌, ◌++◌, ◌∷◌, [], List, ℕ, Option, Some, None, ap, sym, take, append-nil, append_assoc}
use Rattle.theory.specs.Trails.{Entry}
use Rattle.theory.specs.Units.{with_number}
use Rattle.cdcl.specs.Units.{reasons_at}
use Rattle.cdcl.proofs.UnitPlaces.{reasons-read}
use Rattle.cdcl.proofs.analysis.unit_hints.put_reasons.Goals as goal
use Rattle.cdcl.proofs.analysis.unit_hints.put_reasons.Goals.{in-Some+in_ok-put_last, in_default}

pub loop-place-init : goal.loop-place-init
loop-place-init c = sym (append-nil c.args.hints.now.items)

pub loop-place-preserved : goal.loop-place-preserved
loop-place-preserved c =
    let T = c.args.kernel.now.trail in
    let before = reasons_at T (take c.loop-place.place-index c.args.places.now) in
    let read : (o : Option ℕ) → c.entry.inside.reason ≡ o → reasons_at T (take (c.loop-place.place-index + 1) c.args.places.now) ≡ before ++ with_number o []
    = λ o reason. reasons-read T c.trail-trail.result.now c.args.places.now c.loop-place.place-index _ c.index-trail-place.result o c.trail-trail.ensures.trail c.loop-place-test.true c.requires c.index-trail-place.is
    (sym (ap (λ (e : Entry). e.reason) c.entry.view_is) ∙ reason) in
    elim c.match-entry.branch [
      | in-Some+in_ok-put_last w ↦ rw w.hints-is (w.in_ok-put_last.ensures.ok
          ∙ (ap (λ (ns : List ℕ). ns ++ w.in-Some.number ∷ []) c.loop-place.invariant
          ∙ (append_assoc c.args.hints.now.items before (w.in-Some.number ∷ []) ∙ ap (λ (ns : List ℕ). c.args.hints.now.items ++ ns) (sym (read (Some w.in-Some.number) w.in-Some.is)))))
      | in_default w ↦ rw w.hints-is (c.loop-place.invariant ∙ ap (λ (ns : List ℕ). c.args.hints.now.items ++ ns) (sym (read None w.in_default.is ∙ append-nil before)))
    ]
