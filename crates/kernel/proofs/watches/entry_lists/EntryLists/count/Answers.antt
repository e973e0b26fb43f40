use Rattle.std.proofs.Common.{arith}
use Rattle.kernel.proofs.Rooms.{head-inside, its-room-is, len-is}
use Rattle.kernel.proofs.watches.entry_lists.EntryLists.count.Goals as goal

pub index-requires : goal.index-requires
index-requires c =
    let inside = head-inside c.self.inside.entries.items c.self.inside.heads.items c.self.inside.rooms.items c.args.self.now c.self.view_is c.self.invariant.0 c.args.at c.requires in
    omega (arith, inside, c.self.inside.heads.ok.0)

pub returns : goal.returns
returns c = len-is c.self.inside.entries.items c.self.inside.heads.items c.self.inside.rooms.items c.args.self.now c.self.view_is c.self.invariant.0 c.args.at c.requires c.index.result.now c.index.ensures _ (its-room-is c.self.inside.entries.items c.self.inside.heads.items c.self.inside.rooms.items c.args.self.now c.self.view_is c.self.invariant.0 c.args.at c.requires)
