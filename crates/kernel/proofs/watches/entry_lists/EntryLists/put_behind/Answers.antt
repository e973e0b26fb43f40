use Rattle.std.proofs.Common.{◌<◌, ◌+◌, set, sym, subst, arith}
use Rattle.std.proofs.lemmas.List.{length-set}
use Rattle.kernel.specs.EntryLists.{AreApart}
use Rattle.kernel.proofs.Rooms.{head-inside, its-room, its-room-is, room-long, fits, pushed-room, apart-len, len-is}
use Rattle.kernel.proofs.watches.entry_lists.EntryLists.put_behind.Goals as goal

pub index_mut-head-requires : goal.index_mut-head-requires
index_mut-head-requires c =
    let inside = head-inside c.self.inside.entries.items c.self.inside.heads.items c.self.inside.rooms.items c.args.self.now c.self.view_is c.self.invariant.0 c.args.at c.requires.at in
    omega (arith, inside, c.self.inside.heads.ok.0)

-- the list doesn't fill its room
below : (c : goal.After-index_mut-head) → c.index_mut-head.result.now.len < its-room c.self.inside.entries.items c.self.inside.heads.items c.self.inside.rooms.items c.args.self.now c.self.view_is c.self.invariant.0 c.args.at c.requires.at
below c =
    let long = room-long c.self.inside.entries.items c.self.inside.heads.items c.self.inside.rooms.items c.args.self.now c.self.view_is c.self.invariant.0 c.args.at c.requires.at c.index_mut-head.result.now c.index_mut-head.ensures.value (its-room c.self.inside.entries.items c.self.inside.heads.items c.self.inside.rooms.items c.args.self.now c.self.view_is c.self.invariant.0 c.args.at c.requires.at) (its-room-is c.self.inside.entries.items c.self.inside.heads.items c.self.inside.rooms.items c.args.self.now c.self.view_is c.self.invariant.0 c.args.at c.requires.at) in
    let len = len-is c.self.inside.entries.items c.self.inside.heads.items c.self.inside.rooms.items c.args.self.now c.self.view_is c.self.invariant.0 c.args.at c.requires.at c.index_mut-head.result.now c.index_mut-head.ensures.value (its-room c.self.inside.entries.items c.self.inside.heads.items c.self.inside.rooms.items c.args.self.now c.self.view_is c.self.invariant.0 c.args.at c.requires.at) (its-room-is c.self.inside.entries.items c.self.inside.heads.items c.self.inside.rooms.items c.args.self.now c.self.view_is c.self.invariant.0 c.args.at c.requires.at) in
    let less = c.requires.room in
    omega (arith, long, len, less)

pub overflow_add-place : goal.overflow_add-place
overflow_add-place c =
    let low = (fits c.self.inside.entries.items c.self.inside.heads.items c.self.inside.rooms.items c.args.self.now c.self.view_is c.self.invariant.0 c.args.at c.requires.at c.index_mut-head.result.now c.index_mut-head.ensures.value (its-room c.self.inside.entries.items c.self.inside.heads.items c.self.inside.rooms.items c.args.self.now c.self.view_is c.self.invariant.0 c.args.at c.requires.at) (its-room-is c.self.inside.entries.items c.self.inside.heads.items c.self.inside.rooms.items c.args.self.now c.self.view_is c.self.invariant.0 c.args.at c.requires.at)).1 in
    let less = below c in
    let few = c.self.invariant.1 in
    omega (arith, low, less, few)

pub index_mut-requires : goal.index_mut-requires
index_mut-requires c =
    let low = (fits c.self.inside.entries.items c.self.inside.heads.items c.self.inside.rooms.items c.args.self.now c.self.view_is c.self.invariant.0 c.args.at c.requires.at c.index_mut-head.result.now c.index_mut-head.ensures.value (its-room c.self.inside.entries.items c.self.inside.heads.items c.self.inside.rooms.items c.args.self.now c.self.view_is c.self.invariant.0 c.args.at c.requires.at) (its-room-is c.self.inside.entries.items c.self.inside.heads.items c.self.inside.rooms.items c.args.self.now c.self.view_is c.self.invariant.0 c.args.at c.requires.at)).1 in
    let long = room-long c.self.inside.entries.items c.self.inside.heads.items c.self.inside.rooms.items c.args.self.now c.self.view_is c.self.invariant.0 c.args.at c.requires.at c.index_mut-head.result.now c.index_mut-head.ensures.value (its-room c.self.inside.entries.items c.self.inside.heads.items c.self.inside.rooms.items c.args.self.now c.self.view_is c.self.invariant.0 c.args.at c.requires.at) (its-room-is c.self.inside.entries.items c.self.inside.heads.items c.self.inside.rooms.items c.args.self.now c.self.view_is c.self.invariant.0 c.args.at c.requires.at) in
    let len = len-is c.self.inside.entries.items c.self.inside.heads.items c.self.inside.rooms.items c.args.self.now c.self.view_is c.self.invariant.0 c.args.at c.requires.at c.index_mut-head.result.now c.index_mut-head.ensures.value (its-room c.self.inside.entries.items c.self.inside.heads.items c.self.inside.rooms.items c.args.self.now c.self.view_is c.self.invariant.0 c.args.at c.requires.at) (its-room-is c.self.inside.entries.items c.self.inside.heads.items c.self.inside.rooms.items c.args.self.now c.self.view_is c.self.invariant.0 c.args.at c.requires.at) in
    let less = c.requires.room in
    omega (arith, low, long, len, less, c.self.inside.entries.ok.0)

pub overflow_add-head : goal.overflow_add-head
overflow_add-head c =
    let low = (fits c.self.inside.entries.items c.self.inside.heads.items c.self.inside.rooms.items c.args.self.now c.self.view_is c.self.invariant.0 c.args.at c.requires.at c.index_mut-head.result.now c.index_mut-head.ensures.value (its-room c.self.inside.entries.items c.self.inside.heads.items c.self.inside.rooms.items c.args.self.now c.self.view_is c.self.invariant.0 c.args.at c.requires.at) (its-room-is c.self.inside.entries.items c.self.inside.heads.items c.self.inside.rooms.items c.args.self.now c.self.view_is c.self.invariant.0 c.args.at c.requires.at)).1 in
    let long = room-long c.self.inside.entries.items c.self.inside.heads.items c.self.inside.rooms.items c.args.self.now c.self.view_is c.self.invariant.0 c.args.at c.requires.at c.index_mut-head.result.now c.index_mut-head.ensures.value (its-room c.self.inside.entries.items c.self.inside.heads.items c.self.inside.rooms.items c.args.self.now c.self.view_is c.self.invariant.0 c.args.at c.requires.at) (its-room-is c.self.inside.entries.items c.self.inside.heads.items c.self.inside.rooms.items c.args.self.now c.self.view_is c.self.invariant.0 c.args.at c.requires.at) in
    let len = len-is c.self.inside.entries.items c.self.inside.heads.items c.self.inside.rooms.items c.args.self.now c.self.view_is c.self.invariant.0 c.args.at c.requires.at c.index_mut-head.result.now c.index_mut-head.ensures.value (its-room c.self.inside.entries.items c.self.inside.heads.items c.self.inside.rooms.items c.args.self.now c.self.view_is c.self.invariant.0 c.args.at c.requires.at) (its-room-is c.self.inside.entries.items c.self.inside.heads.items c.self.inside.rooms.items c.args.self.now c.self.view_is c.self.invariant.0 c.args.at c.requires.at) in
    let less = c.requires.room in
    let few = c.self.invariant.1 in
    omega (arith, low, long, len, less, few)

pub invariant_of-self : goal.invariant_of-self
invariant_of-self c =
    let long = room-long c.self.inside.entries.items c.self.inside.heads.items c.self.inside.rooms.items c.args.self.now c.self.view_is c.self.invariant.0 c.args.at c.requires.at c.index_mut-head.result.now c.index_mut-head.ensures.value (its-room c.self.inside.entries.items c.self.inside.heads.items c.self.inside.rooms.items c.args.self.now c.self.view_is c.self.invariant.0 c.args.at c.requires.at) (its-room-is c.self.inside.entries.items c.self.inside.heads.items c.self.inside.rooms.items c.args.self.now c.self.view_is c.self.invariant.0 c.args.at c.requires.at) in
    let len = len-is c.self.inside.entries.items c.self.inside.heads.items c.self.inside.rooms.items c.args.self.now c.self.view_is c.self.invariant.0 c.args.at c.requires.at c.index_mut-head.result.now c.index_mut-head.ensures.value (its-room c.self.inside.entries.items c.self.inside.heads.items c.self.inside.rooms.items c.args.self.now c.self.view_is c.self.invariant.0 c.args.at c.requires.at) (its-room-is c.self.inside.entries.items c.self.inside.heads.items c.self.inside.rooms.items c.args.self.now c.self.view_is c.self.invariant.0 c.args.at c.requires.at) in
    let less = c.requires.room in
    let same = length-set c.self.inside.entries.items (c.index_mut-head.result.now.from + c.index_mut-head.result.now.len) c.args.entry in
    let few = c.self.invariant.1 in (
      subst (λ n. AreApart (set c.self.inside.heads.items c.args.at (record { from = c.index_mut-head.result.now.from; len = c.index_mut-head.result.now.len + 1 })) c.self.inside.rooms.items n) (sym same)
          (apart-len c.self.inside.entries.items c.self.inside.heads.items c.self.inside.rooms.items c.args.self.now c.self.view_is c.self.invariant.0 c.args.at c.requires.at c.index_mut-head.result.now c.index_mut-head.ensures.value (its-room c.self.inside.entries.items c.self.inside.heads.items c.self.inside.rooms.items c.args.self.now c.self.view_is c.self.invariant.0 c.args.at c.requires.at) (its-room-is c.self.inside.entries.items c.self.inside.heads.items c.self.inside.rooms.items c.args.self.now c.self.view_is c.self.invariant.0 c.args.at c.requires.at) (c.index_mut-head.result.now.len + 1) (omega (arith, long, len, less))),
      omega (arith, same, few),
    )

pub returns : goal.returns
returns c = pushed-room c.self.inside.entries.items c.self.inside.heads.items c.self.inside.rooms.items c.args.self.now c.self.view_is c.self.invariant.0 c.args.at c.requires.at c.index_mut-head.result.now c.index_mut-head.ensures.value (its-room c.self.inside.entries.items c.self.inside.heads.items c.self.inside.rooms.items c.args.self.now c.self.view_is c.self.invariant.0 c.args.at c.requires.at) (its-room-is c.self.inside.entries.items c.self.inside.heads.items c.self.inside.rooms.items c.args.self.now c.self.view_is c.self.invariant.0 c.args.at c.requires.at) c.args.entry (let long = room-long c.self.inside.entries.items c.self.inside.heads.items c.self.inside.rooms.items c.args.self.now c.self.view_is c.self.invariant.0 c.args.at c.requires.at c.index_mut-head.result.now c.index_mut-head.ensures.value (its-room c.self.inside.entries.items c.self.inside.heads.items c.self.inside.rooms.items c.args.self.now c.self.view_is c.self.invariant.0 c.args.at c.requires.at) (its-room-is c.self.inside.entries.items c.self.inside.heads.items c.self.inside.rooms.items c.args.self.now c.self.view_is c.self.invariant.0 c.args.at c.requires.at) in let len = len-is c.self.inside.entries.items c.self.inside.heads.items c.self.inside.rooms.items c.args.self.now c.self.view_is c.self.invariant.0 c.args.at c.requires.at c.index_mut-head.result.now c.index_mut-head.ensures.value (its-room c.self.inside.entries.items c.self.inside.heads.items c.self.inside.rooms.items c.args.self.now c.self.view_is c.self.invariant.0 c.args.at c.requires.at) (its-room-is c.self.inside.entries.items c.self.inside.heads.items c.self.inside.rooms.items c.args.self.now c.self.view_is c.self.invariant.0 c.args.at c.requires.at) in let less = c.requires.room in omega (arith, long, len, less))
