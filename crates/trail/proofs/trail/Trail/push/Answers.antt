use Rattle.std.proofs.Common.{◌≡◌, ◌+◌, length, drop, arith, ap, sym, ◌∙◌}
use Rattle.theory.specs.Trails.{Entry}
use Rattle.trail.proofs.Ordered.{IsOrdered-push, length-free}
use Rattle.trail.proofs.GoingBack.{refilled}
use Rattle.trail.proofs.Tables.{AreTables-put}
use Rattle.trail.proofs.NextFree.{IsNextFree-push, zero-beside}
use Rattle.trail.proofs.trail.Trail.push.Goals as goal

-- there is room, since a variable is free
pub push_reserved-requires : goal.push_reserved-requires
push_reserved-requires c =
    let less = length-free _ _ c.args.entry c.self.invariant.0 (rw (← c.self.view_is) at c.requires.is_variable) (rw (← c.self.view_is) at c.requires.is_free) (rw (← c.self.view_is) at c.requires.is_latest) in
    let room = c.self.invariant.1 in
    let long = c.self.inside.entries.ok.0 in
    omega arith

pub overflow_cast-len : goal.overflow_cast-len
overflow_cast-len c =
    let less = length-free _ _ c.args.entry c.self.invariant.0 (rw (← c.self.view_is) at c.requires.is_variable) (rw (← c.self.view_is) at c.requires.is_free) (rw (← c.self.view_is) at c.requires.is_latest) in
    let small = c.self.invariant.2 in
    let len = c.len.ensures in
    let more = c.push_reserved.ensures.len in
    let long = c.self.inside.entries.ok.0 in
    omega arith

pub least_free_beside-self-inside-requires-clause-other : goal.least_free_beside-self-inside-requires-clause-other
least_free_beside-self-inside-requires-clause-other c other =
    rw c.deref.ensures.value (zero-beside _ _ _ c.len.result _ _ c.self.inside.places.items c.self.invariant.3 c.self.invariant.4 other)

pub invariant_of-self : goal.invariant_of-self
invariant_of-self c =
    let room = c.self.invariant.1 in
    let more = c.push_reserved.ensures.capacity in
    let long = c.self.inside.entries.ok.0 in
    let longer = c.push_reserved.ensures.len in
    let len = c.len.ensures in
    let is_variable = rw (← c.self.view_is) at c.requires.is_variable in
    let is_free = rw (← c.self.view_is) at c.requires.is_free in
    let T = c.self.inside.entries.items in
    let ordered = IsOrdered-push c.self.inside.vars T c.args.entry c.self.invariant.0 is_variable is_free (rw (← c.self.view_is) at c.requires.is_latest) in
    let var : c.var-var.result ≡ c.args.entry.lit.var = c.var-var.ensures.var ∙ ap (λ (e : Entry). e.lit.var) c.entry.view_is in
    let lit : c.entry.inside.lit ≡ c.args.entry.lit = ap (λ (e : Entry). e.lit) c.entry.view_is in
    let last : c.len.result ≡ length T + 1 = omega arith in
    let tables = AreTables-put c.self.inside.vars T c.push_reserved.new.self.items c.args.entry c.entry.inside.lit c.self.inside.truths.items c.put_truths.new.truths c.self.inside.places.items c.var-var.result c.len.result c.self.invariant.3 is_variable is_free lit var last c.push_reserved.ensures.items
    (rw c.deref_mut.ensures.value at c.put_truths.ensures) in
    let truths_long : length c.put_truths.new.truths ≡ length c.self.inside.truths.items = c.put_truths.auto.truths ∙ ap length c.deref_mut.ensures.value in
    let truths_back = refilled c.self.inside.truths.len c.put_truths.new.truths (drop (length c.put_truths.new.truths) c.self.inside.truths.items) (c.self.inside.truths.ok.0 ∙ sym truths_long) in
    let next = rw c.deref.ensures.value at c.least_free_beside-self-inside.ensures in (
      rw c.push_reserved.ensures.items ordered,
      omega arith,
      c.self.invariant.2,
      rw truths_back tables,
      rw c.push_reserved.ensures.items (IsNextFree-push c.self.inside.vars c.self.inside.next_free c.least_free_beside-self-inside.result T c.args.entry _ _ c.self.invariant.4 ordered.over (rw c.push_reserved.ensures.items at tables) next.low next.high next.before next.found),
    )
