use Rattle.std.proofs.Common.{◌≡◌, length, ap, arith}
use Rattle.kernel.specs.EntryLists.{in_rooms}
use Rattle.kernel.proofs.Rooms.{length-rooms}
use Rattle.kernel.proofs.watches.entry_lists.EntryLists.len.Goals as goal

pub returns : goal.returns
returns c = let a : length (in_rooms c.self.inside.entries.items c.self.inside.heads.items c.self.inside.rooms.items) ≡ length c.args.self.now = ap length c.self.view_is in
    let b = length-rooms c.self.inside.entries.items c.self.inside.heads.items c.self.inside.rooms.items c.self.invariant.0.as_many in
    omega (arith, a, b, c.self.inside.heads.ok.0)
