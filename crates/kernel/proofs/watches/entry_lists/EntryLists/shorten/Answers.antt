use Rattle.std.proofs.Common.{arith}
use Rattle.kernel.proofs.Rooms.{head-inside, its-room-is, room-long, fits, shortened, apart-len}
use Rattle.kernel.proofs.watches.entry_lists.EntryLists.shorten.Goals as goal

pub index_mut-head-requires : goal.index_mut-head-requires
index_mut-head-requires c =
    let inside = head-inside c.self.inside.entries.items c.self.inside.heads.items c.self.inside.rooms.items c.args.self.now c.self.view_is c.self.invariant.0 c.args.at c.requires.at in
    omega (arith, inside, c.self.inside.heads.ok.0)

pub overflow_cast-head : goal.overflow_cast-head
overflow_cast-head c =
    let q = c.requires.at in
    let h = c.index_mut-head.result.now in
    let long = room-long c.self.inside.entries.items c.self.inside.heads.items c.self.inside.rooms.items c.args.self.now c.self.view_is c.self.invariant.0 c.args.at q h c.index_mut-head.ensures.value _ (its-room-is c.self.inside.entries.items c.self.inside.heads.items c.self.inside.rooms.items c.args.self.now c.self.view_is c.self.invariant.0 c.args.at q) in
    let low = (fits c.self.inside.entries.items c.self.inside.heads.items c.self.inside.rooms.items c.args.self.now c.self.view_is c.self.invariant.0 c.args.at q h c.index_mut-head.ensures.value _ (its-room-is c.self.inside.entries.items c.self.inside.heads.items c.self.inside.rooms.items c.args.self.now c.self.view_is c.self.invariant.0 c.args.at q)).1 in
    let few = c.self.invariant.1 in
    let less = c.requires.len in
    omega (arith, long, low, few, less)

pub invariant_of-self : goal.invariant_of-self
invariant_of-self c =
    let q = c.requires.at in
    let h = c.index_mut-head.result.now in
    let is = its-room-is c.self.inside.entries.items c.self.inside.heads.items c.self.inside.rooms.items c.args.self.now c.self.view_is c.self.invariant.0 c.args.at q in
    let long = room-long c.self.inside.entries.items c.self.inside.heads.items c.self.inside.rooms.items c.args.self.now c.self.view_is c.self.invariant.0 c.args.at q h c.index_mut-head.ensures.value _ is in
    let less = c.requires.len in
    (apart-len c.self.inside.entries.items c.self.inside.heads.items c.self.inside.rooms.items c.args.self.now c.self.view_is c.self.invariant.0 c.args.at q h c.index_mut-head.ensures.value _ is c.args.len (omega (arith, long, less)), c.self.invariant.1)

pub returns : goal.returns
returns c = shortened c.self.inside.entries.items c.self.inside.heads.items c.self.inside.rooms.items c.args.self.now c.self.view_is c.self.invariant.0 c.args.at c.requires.at c.index_mut-head.result.now c.index_mut-head.ensures.value _ (its-room-is c.self.inside.entries.items c.self.inside.heads.items c.self.inside.rooms.items c.args.self.now c.self.view_is c.self.invariant.0 c.args.at c.requires.at) c.args.len
