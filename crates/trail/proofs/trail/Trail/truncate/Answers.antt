use Rattle.std.proofs.Common.{◌≡◌, length, drop, ap, sym, ◌∙◌, arith}
use Rattle.trail.proofs.GoingBack.{drop-range, drop-within, refilled, AreTables-back, IsNextFree-back}
use Rattle.trail.proofs.Ordered.{IsOrdered-take}
use Rattle.trail.proofs.trail.Trail.truncate.Goals as goal

pub free_all-self-inside-requires : goal.free_all-self-inside-requires
free_all-self-inside-requires c =
    rw (c.deref.ensures.value, c.deref_mut.ensures.value, c.deref_mut-2.ensures.value, drop-range)
    (drop-within _ c.self.inside.entries.items c.args.count _ _ c.self.invariant.0 c.self.invariant.3)

pub invariant_of-self : goal.invariant_of-self
invariant_of-self c =
    let T = c.self.inside.entries.items in
    let room = c.self.invariant.1 in
    let same = c.truncate.ensures.capacity in
    let freed = rw (c.deref.ensures.value, drop-range) at c.free_all-self-inside.ensures in
    let truths_long : length c.free_all-self-inside.new.truths ≡ length c.self.inside.truths.items = c.free_all-self-inside.auto.truths ∙ ap length c.deref_mut.ensures.value in
    let places_long : length c.free_all-self-inside.new.places ≡ length c.self.inside.places.items = c.free_all-self-inside.auto.places ∙ ap length c.deref_mut-2.ensures.value in
    let truths_back = refilled c.self.inside.truths.len c.free_all-self-inside.new.truths (drop (length c.free_all-self-inside.new.truths) c.self.inside.truths.items) (c.self.inside.truths.ok.0 ∙ sym truths_long) in
    let places_back = refilled c.self.inside.places.len c.free_all-self-inside.new.places (drop (length c.free_all-self-inside.new.places) c.self.inside.places.items) (c.self.inside.places.ok.0 ∙ sym places_long) in (
      rw c.truncate.ensures.items (IsOrdered-take _ _ _ c.self.invariant.0),
      omega arith,
      c.self.invariant.2,
      rw (c.truncate.ensures.items, truths_back, places_back)
          (AreTables-back c.self.inside.vars T c.args.count c.self.inside.truths.items c.free_all-self-inside.new.truths c.self.inside.places.items c.free_all-self-inside.new.places c.self.invariant.0 c.self.invariant.3 truths_long places_long
          (rw c.deref_mut.ensures.value at freed.truths) (rw c.deref_mut-2.ensures.value at freed.places)),
      rw c.truncate.ensures.items (IsNextFree-back c.self.inside.vars c.self.inside.next_free c.free_all-self-inside.result T c.args.count c.self.invariant.0 c.self.invariant.4 freed.most freed.least freed.there),
    )
