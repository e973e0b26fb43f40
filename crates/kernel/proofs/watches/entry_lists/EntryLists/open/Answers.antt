use Rattle.std.proofs.Common.{refl, arith}
use Rattle.kernel.proofs.Rooms.{head-inside, its-room-is, from-is, len-is, fits, room-long}
use Rattle.kernel.proofs.watches.entry_lists.EntryLists.open.Goals as goal

pub index-head-requires : goal.index-head-requires
index-head-requires c =
    let inside = head-inside c.self.inside.entries.items c.self.inside.heads.items c.self.inside.rooms.items c.args.self.now c.self.view_is c.self.invariant.0 c.args.at c.requires in
    omega (arith, inside, c.self.inside.heads.ok.0)

pub returns-clause-list : goal.returns-clause-list
returns-clause-list c =
    let room = its-room-is c.self.inside.entries.items c.self.inside.heads.items c.self.inside.rooms.items c.args.self.now c.self.view_is c.self.invariant.0 c.args.at c.requires in (
      refl,
      from-is c.self.inside.entries.items c.self.inside.heads.items c.self.inside.rooms.items c.args.self.now c.self.view_is c.self.invariant.0 c.args.at c.requires c.index-head.result.now c.index-head.ensures _ room,
      len-is c.self.inside.entries.items c.self.inside.heads.items c.self.inside.rooms.items c.args.self.now c.self.view_is c.self.invariant.0 c.args.at c.requires c.index-head.result.now c.index-head.ensures _ room,
    )

pub returns-clause-within : goal.returns-clause-within
returns-clause-within c =
    let room = its-room-is c.self.inside.entries.items c.self.inside.heads.items c.self.inside.rooms.items c.args.self.now c.self.view_is c.self.invariant.0 c.args.at c.requires in
    let long = room-long c.self.inside.entries.items c.self.inside.heads.items c.self.inside.rooms.items c.args.self.now c.self.view_is c.self.invariant.0 c.args.at c.requires c.index-head.result.now c.index-head.ensures _ room in
    let low = (fits c.self.inside.entries.items c.self.inside.heads.items c.self.inside.rooms.items c.args.self.now c.self.view_is c.self.invariant.0 c.args.at c.requires c.index-head.result.now c.index-head.ensures _ room).0 in
    omega (arith, long, low)
