use Rattle.std.proofs.Common.{◌≡◌, ◌≤◌, ◌+◌, ◌-◌, ◌++◌, ◌∙◌, List, [], length, get_or, set, take, drop, map, ap, sym, subst, refl, arith, rules}
use Rattle.kernel.specs.Forgetting.{names, entries_left}
use Rattle.std.specs.Vec.{with_items}
use Rattle.std.proofs.lemmas.List.{with_items_is, length-set}
use Rattle.kernel.specs.declared.watches.watch.Watch.{Watch}
use Rattle.kernel.specs.EntryLists.{AreApart, entries_of, in_rooms}
use Rattle.kernel.proofs.Rooms.{head-inside, its-room, its-room-is, fits, anew-long, anew-entries, anew-apart, old-entries, entries-at, length-rooms}
use Rattle.kernel.proofs.watches.entry_lists.EntryLists.drop_named.Goals as goal

pub index-head-requires : goal.index-head-requires
index-head-requires c =
    let inside = head-inside c.self.inside.entries.items c.self.inside.heads.items c.self.inside.rooms.items c.args.self.now c.self.view_is c.self.invariant.0 c.args.at c.requires in
    omega (arith, inside, c.self.inside.heads.ok.0)

low : (c : goal.After-deref_mut) → c.index-head.result.now.from + c.index-head.result.now.len ≤ length c.deref_mut.result.now
low c =
    let f = fits c.self.inside.entries.items c.self.inside.heads.items c.self.inside.rooms.items c.args.self.now c.self.view_is c.self.invariant.0 c.args.at c.requires c.index-head.result.now c.index-head.ensures (its-room c.self.inside.entries.items c.self.inside.heads.items c.self.inside.rooms.items c.args.self.now c.self.view_is c.self.invariant.0 c.args.at c.requires) (its-room-is c.self.inside.entries.items c.self.inside.heads.items c.self.inside.rooms.items c.args.self.now c.self.view_is c.self.invariant.0 c.args.at c.requires) in
    let a = f.0 in
    let b = f.1 in
    let same = ap length c.deref_mut.ensures.value in
    omega (arith, a, b, same)

pub slice_bounds-keep_unnamed-end : goal.slice_bounds-keep_unnamed-end
slice_bounds-keep_unnamed-end c =
    let h = low c in
    search rules

pub index_mut-requires : goal.index_mut-requires
index_mut-requires c =
    let inside = head-inside c.self.inside.entries.items c.self.inside.heads.items c.self.inside.rooms.items c.args.self.now c.self.view_is c.self.invariant.0 c.args.at c.requires in
    omega (arith, inside, c.self.inside.heads.ok.0)

-- the entries that are there now
abbrev now : goal.After-self-2-1 → List Watch
now c =
    let h = c.index-head.result.now in
    take h.from c.deref_mut.result.now ++ (c.keep_unnamed-len.new.list ++ drop (h.from + h.len - h.from) (drop h.from c.deref_mut.result.now))

some : (c : goal.After-self-2-1) → c.index-head.result.now.from + c.index-head.result.now.len - c.index-head.result.now.from ≡ c.index-head.result.now.len
some c = omega arith

as-many : (c : goal.After-self-2-1) → length (now c) ≡ length c.self.inside.entries.items
as-many c = anew-long c.self.inside.entries.items c.self.inside.heads.items c.self.inside.rooms.items c.args.self.now c.self.view_is c.self.invariant.0 c.args.at c.requires c.index-head.result.now c.index-head.ensures (its-room c.self.inside.entries.items c.self.inside.heads.items c.self.inside.rooms.items c.args.self.now c.self.view_is c.self.invariant.0 c.args.at c.requires) (its-room-is c.self.inside.entries.items c.self.inside.heads.items c.self.inside.rooms.items c.args.self.now c.self.view_is c.self.invariant.0 c.args.at c.requires) _ c.deref_mut.result.now (now c) c.keep_unnamed-len.new.list (some c) c.deref_mut.ensures.value c.keep_unnamed-len.auto.list refl

items : (c : goal.After-self-2-1) → (with_items c.self.inside.entries (now c)).items ≡ now c
items c = with_items_is c.self.inside.entries (now c) (as-many c ∙ sym c.self.inside.entries.ok.0)

pub invariant_of-self : goal.invariant_of-self
invariant_of-self c =
    let h = c.index-head.result.now in
    let size = ap length (items c) in
    let many = as-many c in
    let few = c.self.invariant.1 in (
      subst (λ (es : List Watch). AreApart (set c.self.inside.heads.items c.args.at (record { from = h.from; len = c.keep_unnamed-len.result })) c.self.inside.rooms.items (length es)) (sym (items c))
          (anew-apart c.self.inside.entries.items c.self.inside.heads.items c.self.inside.rooms.items c.args.self.now c.self.view_is c.self.invariant.0 c.args.at c.requires c.index-head.result.now c.index-head.ensures (its-room c.self.inside.entries.items c.self.inside.heads.items c.self.inside.rooms.items c.args.self.now c.self.view_is c.self.invariant.0 c.args.at c.requires) (its-room-is c.self.inside.entries.items c.self.inside.heads.items c.self.inside.rooms.items c.args.self.now c.self.view_is c.self.invariant.0 c.args.at c.requires) _ c.deref_mut.result.now (now c) c.keep_unnamed-len.new.list (some c) c.deref_mut.ensures.value c.keep_unnamed-len.auto.list refl c.keep_unnamed-len.result c.keep_unnamed-len.ensures.within),
      omega (arith, size, many, few),
    )

left : (c : goal.After-self-2-1) → map entries_of (in_rooms (with_items c.self.inside.entries (now c)).items (set c.self.inside.heads.items c.args.at (record { from = c.index-head.result.now.from; len = c.keep_unnamed-len.result })) c.self.inside.rooms.items)
    ≡ set (map entries_of c.args.self.now) c.args.at (take c.keep_unnamed-len.result c.keep_unnamed-len.new.list)
left c =
    ap (λ (es : List Watch). map entries_of (in_rooms es (set c.self.inside.heads.items c.args.at (record { from = c.index-head.result.now.from; len = c.keep_unnamed-len.result })) c.self.inside.rooms.items)) (items c)
    ∙ anew-entries c.self.inside.entries.items c.self.inside.heads.items c.self.inside.rooms.items c.args.self.now c.self.view_is c.self.invariant.0 c.args.at c.requires c.index-head.result.now c.index-head.ensures (its-room c.self.inside.entries.items c.self.inside.heads.items c.self.inside.rooms.items c.args.self.now c.self.view_is c.self.invariant.0 c.args.at c.requires) (its-room-is c.self.inside.entries.items c.self.inside.heads.items c.self.inside.rooms.items c.args.self.now c.self.view_is c.self.invariant.0 c.args.at c.requires) _ c.deref_mut.result.now (now c) c.keep_unnamed-len.new.list (some c) c.deref_mut.ensures.value c.keep_unnamed-len.auto.list refl c.keep_unnamed-len.result c.keep_unnamed-len.ensures.within

before : (c : goal.After-self-2-1) → take (c.index-head.result.now.from + c.index-head.result.now.len - c.index-head.result.now.from) (drop c.index-head.result.now.from c.deref_mut.result.now) ≡ get_or (map entries_of c.args.self.now) c.args.at []
before c =
    old-entries c.self.inside.entries.items c.self.inside.heads.items c.self.inside.rooms.items c.args.self.now c.self.view_is c.self.invariant.0 c.args.at c.requires c.index-head.result.now c.index-head.ensures (its-room c.self.inside.entries.items c.self.inside.heads.items c.self.inside.rooms.items c.args.self.now c.self.view_is c.self.invariant.0 c.args.at c.requires) (its-room-is c.self.inside.entries.items c.self.inside.heads.items c.self.inside.rooms.items c.args.self.now c.self.view_is c.self.invariant.0 c.args.at c.requires) _ c.deref_mut.result.now (now c) c.keep_unnamed-len.new.list (some c) c.deref_mut.ensures.value c.keep_unnamed-len.auto.list refl
    ∙ sym (entries-at c.self.inside.entries.items c.self.inside.heads.items c.self.inside.rooms.items c.args.self.now c.self.view_is c.self.invariant.0 c.args.at c.requires)

pub returns-clause-long : goal.returns-clause-long
returns-clause-long c =
    let h = c.index-head.result.now in
    let ok = (invariant_of-self c).0 in
    let a = length-rooms (with_items c.self.inside.entries (now c)).items (set c.self.inside.heads.items c.args.at (record { from = h.from; len = c.keep_unnamed-len.result })) c.self.inside.rooms.items ok.as_many in
    let b = length-set c.self.inside.heads.items c.args.at (record { from = h.from; len = c.keep_unnamed-len.result }) in
    let d : length (in_rooms c.self.inside.entries.items c.self.inside.heads.items c.self.inside.rooms.items) ≡ length c.args.self.now = ap length c.self.view_is in
    let e = length-rooms c.self.inside.entries.items c.self.inside.heads.items c.self.inside.rooms.items c.self.invariant.0.as_many in
    omega (arith, a, b, d, e)

pub returns-clause-list : goal.returns-clause-list
returns-clause-list c = left c ∙ ap (set (map entries_of c.args.self.now) c.args.at) (c.keep_unnamed-len.ensures.kept ∙ ap (λ (ws : List Watch). entries_left (names c.args.named.now) ws) (before c))
